-- Where there is a call, a line is printed.
use Rattle.std.proofs.Common.{◌<◌, ◌++◌, ℕ, List, [], ◌∷◌, length, codes, arith, rules}
use Rattle.std.proofs.lemmas.List.{length-append}
use Rattle.loads.specs.declared.kinds.Load.{Ghosts}
use Rattle.link.specs.declared.calls.Call.{Call}
use Rattle.link.specs.declared.events.Event.{Event}
use Rattle.frametext.specs.Lines.{line}
use Rattle.linktext.specs.Lines.{call_text, event_lines}
use Rattle.sheetrun.specs.CallsByMarks.{MarkedLink, call_by_marks, calls_by_marks}

-- a line has at least its end
line_some : (text more : List ℕ) → 0 < length (line text ++ more)
line_some text more = omega (arith, length-append (line text) more, length-append text (codes "\n"))

module _ {T : Type 0} (kind : Ghosts T) where
  pub lines_some : (events : List (Event T)) → 0 < length events → 0 < length (event_lines kind events)
  lines_some [] some = some
  lines_some (event ∷ events) some = line_some (call_text kind event) (event_lines kind events)

  pub run_lines_some : (book : List T) (calls : List Call) (before : MarkedLink T) → 0 < length calls → 0 < length (event_lines kind (calls_by_marks book calls before).0)
  run_lines_some book [] before some = search rules
  run_lines_some book (call ∷ calls) before some =
      line_some (call_text kind (call_by_marks book call before).0) (event_lines kind (calls_by_marks book calls (call_by_marks book call before).1).0)
