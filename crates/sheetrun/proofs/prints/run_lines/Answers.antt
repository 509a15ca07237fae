use Rattle.std.proofs.Common.{rules}
use Rattle.std.proofs.lemmas.Result.{IfErr-weaker}
use Rattle.sheetrun.specs.CallsByMarks.{link_over}
use Rattle.sheetrun.proofs.Lines.{lines_some, run_lines_some}
use Rattle.sheetrun.proofs.prints.run_lines.Goals as goal

pub returns-in_err-sheet_events-clause-memory : goal.returns-in_err-sheet_events-clause-memory
returns-in_err-sheet_events-clause-memory g c =
    let sheet = c.args.sheet.now in
    let some = run_lines_some g.T.Load sheet.book sheet.calls (link_over sheet.repeats sheet.to_hut sheet.back) c.in_err-sheet_events.ensures.memory in
    search (rules, some)

pub returns-clause-memory : goal.returns-clause-memory
returns-clause-memory g c =
    IfErr-weaker c.event_lines.result _ _ (λ _ some. lines_some g.T.Load _ (rw (c.deref.ensures.value, c.in_ok-sheet_events.ensures.made) at some)) c.event_lines.ensures.memory
