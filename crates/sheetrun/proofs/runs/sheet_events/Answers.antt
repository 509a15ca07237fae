use Rattle.std.proofs.Common.{[], ap}
use Rattle.sheetrun.proofs.runs.sheet_events.Goals as goal

pub returns-clause-law : goal.returns-clause-law
returns-clause-law g c =
    let truthful = (c.run_whole.ensures.law c.args.sheet.now.repeats [] (c.joined_link-link.ensures.law c.book.result.now)).1 in
    let logged = ap (λ run. run.0) (rw (c.book.ensures.answer, c.calls-calls.ensures.answer, c.joined_link-link.ensures.answer) at c.run_whole.ensures.after) in
    rw (logged, c.book.ensures.answer) at truthful
