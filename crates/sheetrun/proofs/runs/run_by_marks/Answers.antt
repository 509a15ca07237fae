use Rattle.std.proofs.Common.{◌∙◌, ap}
use Rattle.sheetrun.specs.CallsByMarks.{marked_link, calls_by_marks}
use Rattle.channels.specs.Wires.{wire_waits}
use Rattle.sheetrun.proofs.RunsByMarks.{runs_decided}
use Rattle.sheetrun.proofs.runs.run_by_marks.Goals as goal

pub returns-clause-after : goal.returns-clause-after
returns-clause-after g c =
    runs_decided (wire_waits g.T.Load) (λ frames. frames) c.args.book.now c.args.link.now c.run.new.self _ c.run.ensures.open_answers
    ∙ ap (λ calls. calls_by_marks c.args.book.now calls (marked_link g.T.Load c.args.link.now)) c.run.ensures.called
