use Rattle.std.proofs.Common.{◌≡◌, ap, arith, length, rules, take, take_all, ◌∙◌}
use Rattle.link.specs.Runs.{run_count}
use Rattle.sheetrun.proofs.Logs.{count_whole, written_whole}
use Rattle.sheetrun.proofs.runs.run_whole.Goals as goal

pub returns : goal.returns
returns g c =
    let calls = c.args.calls.now in
    let kept : length c.run_by_marks.new.log ≡ length c.args.log.now = search rules in
    let written = written_whole calls c.args.log.now c.run_by_marks.new.log c.requires kept in
    let every : take (run_count (length calls) (length c.args.log.now)) calls ≡ calls =
    ap (λ count. take count calls) (count_whole (length calls) (length c.args.log.now) c.requires) ∙ take_all (length calls) calls (omega arith) in
    record {
      after = rw (written, every) at c.run_by_marks.ensures.after;
      law = rw written at c.run_by_marks.ensures.law;
    }
