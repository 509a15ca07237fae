use Rattle.std.proofs.Common.{arith, rules}
use Rattle.std.proofs.lemmas.Grind.{common_steps}
use Rattle.std.proofs.lemmas.List.{map_push, take_more_set}
use Rattle.link.proofs.Laws.{runs_lawful}
use Rattle.link.proofs.RunLaws.{runs_push}
use Rattle.link.proofs.links.Link.run.Goals as goal

pub loop-i-preserved : goal.loop-i-preserved
loop-i-preserved g c =
    let more = take_more_set c.loop-i.log c.loop-i.i c.step.result (omega arith) in
    record {
      called = rw more (grind (arith, common_steps, map_push));
      later = grind (arith, common_steps);
      open_answers = rw more (search (rules, runs_push));
    }

pub returns-clause-law : goal.returns-clause-law
returns-clause-law g c = runs_lawful g.K.Channel g.L.Channel _ _ _ _ (search rules)

pub returns-then-log-calls-clause-law : goal.returns-then-log-calls-clause-law
returns-then-log-calls-clause-law g c = runs_lawful g.K.Channel g.L.Channel _ _ _ _ (search rules)
