use Rattle.std.proofs.Common.{arith, length-take, rules}
use Rattle.std.proofs.lemmas.Grind.{common_steps}
use Rattle.std.proofs.lemmas.List.{map_push, take_more_set}
use Rattle.channel.proofs.RowLaws.{row_longer, row_conserves}
use Rattle.channel.proofs.rows.make_uses.Goals as goal

pub loop-i-preserved : goal.loop-i-preserved
loop-i-preserved g c =
    let room = length-take c.min-count.result c.args.uses.now in
    let more = take_more_set c.loop-i.log c.loop-i.i c.make.result (omega (arith, room)) in
    record {
      made = rw more (grind (arith, common_steps, map_push));
      later = grind (arith, common_steps);
      open_answers = rw more (search (rules, row_longer));
    }

pub returns-clause-conserved : goal.returns-clause-conserved
returns-clause-conserved g c = search (rules, row_conserves)
