-- What the program prints: a line for each call, and one for the outcome.
use Rattle.std.specs.Prelude.{ℕ, List, [], ◌∷◌, ◌++◌, Ok, Err, Result}
use Rattle.loads.specs.declared.readings.Reading.{Reading}
use Rattle.loads.specs.Readings.{readings}
use Rattle.channels.specs.declared.marks.Mark.TheVariants.{Pass, Lose}
use Rattle.link.specs.declared.events.Event.{Event}
use Rattle.link.specs.declared.refusals.LinkRefusal.{LinkRefusal}
use Rattle.link.specs.declared.words.Word.{Word}
use Rattle.link.specs.Calls.{outcome}
use Rattle.frametext.specs.Lines.{line}
use Rattle.linktext.specs.Lines.{event_lines, outcome_text}
use Rattle.sheetrun.specs.CallsByMarks.{MarkedLink, link_over, calls_by_marks}
use Rattle.showlink.specs.Sendings.{sendings}

-- the book
abbrev pub three : List Reading
three = record { value = 7 } ∷ record { value = 8 } ∷ record { value = 9 } ∷ []

-- the link, joined with 2 repeats: the first frame is to be lost, and the second reply
abbrev pub start : MarkedLink Reading
start = link_over 2 (Lose ∷ []) (Pass ∷ Lose ∷ [])

-- the calls with their answers, and what they leave
abbrev pub sent : List (Event Reading) × MarkedLink Reading
sent = calls_by_marks three sendings start

-- a line for the outcome
abbrev pub outcome_line : Result (Word × ℕ) LinkRefusal → List ℕ
outcome_line (Ok (word, told)) = line (outcome_text word told)
outcome_line (Err why) = []

-- all that is printed
abbrev pub three_lines : List ℕ
three_lines = event_lines readings sent.0 ++ outcome_line (outcome sent.1.link)
