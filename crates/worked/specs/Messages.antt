-- A message on a link over two rains.
use Rattle.std.specs.Prelude.{ℕ, List, Result}
use Rattle.loads.specs.declared.readings.Reading.{Reading}
use Rattle.channels.specs.declared.marks.Mark.{Mark}
use Rattle.link.specs.declared.calls.Call.{Call}
use Rattle.link.specs.declared.events.Event.{Event}
use Rattle.link.specs.declared.refusals.LinkRefusal.{LinkRefusal}
use Rattle.link.specs.declared.words.Word.{Word}
use Rattle.link.specs.Calls as rule
use Rattle.sheetrun.specs.CallsByMarks.{link_over, calls_by_marks}

-- a message: its repeats, its book, the marks to come of each way, its calls with their answers, and its outcome
pub record MessageParts : Type 0 where
  pub repeats : ℕ
  pub book : List Reading
  pub to_hut : List Mark
  pub back : List Mark
  pub events : List (Event Reading)
  pub outcome : Result (Word × ℕ) LinkRefusal

-- what calls come to on a link over two rains that joined with these repeats, with these marks to come
abbrev pub message_of : ℕ → List Reading → List Mark → List Mark → List Call → MessageParts
message_of repeats book to_hut back calls =
    let made = calls_by_marks book calls (link_over repeats to_hut back) in
    record {
      repeats = repeats;
      book = book;
      to_hut = to_hut;
      back = back;
      events = made.0;
      outcome = rule.outcome made.1.link;
    }
