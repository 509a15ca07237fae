-- A link that sends from a book, and the tally of its calls.
use Rattle.std.specs.Prelude.{ℕ, ◌*◌, ◌%◌, ◌^◌, List, [], ◌∷◌, map, fold}
use Rattle.std.specs.List.{range_with_len}
use Rattle.loads.specs.declared.readings.Reading.{Reading}
use Rattle.link.specs.declared.calls.Call.{Call}
use Rattle.link.specs.declared.calls.Call.TheVariants.{Send, Carry, Tell, Reply, Return}
use Rattle.sheetrun.specs.CallsByMarks.{MarkedLink, link_over, call_by_marks}
use Rattle.pace.specs.declared.tallies.Tally.{Tally}
use Rattle.pace.specs.Tallies.{no_calls, counted}

-- a link with the book that it sends from, and the tally of the calls that were made
pub record CountedState : Type 0 where
  pub book : List Reading
  pub link : MarkedLink Reading
  pub tally : Tally

-- the most loads of a book here
abbrev pub most_loads : ℕ
most_loads = 4096

-- the reading at a place: the factor spreads the values over all 32 bits
abbrev pub reading_at : ℕ → Reading
reading_at place = record { value = place * 2654435761 % 2 ^ 32 }

-- a book of so many readings
unfoldable pub readings_of : ℕ → List Reading
readings_of loads = map reading_at (range_with_len 0 loads)

-- before the first call: the link has joined with 2 repeats, and its channels lose and delay nothing
abbrev pub at_start : List Reading → CountedState
at_start book = record { book = book; link = link_over 2 [] []; tally = no_calls }

-- one call, which is counted with its answer
unfoldable pub counts : CountedState → Call → CountedState
counts before call =
    let step = call_by_marks before.book call before.link in
    record { book = before.book; link = step.1; tally = counted step.0.answer before.tally }

-- calls in order
abbrev pub counts_all : List Call → CountedState → CountedState
counts_all calls before = fold counts before calls

-- the calls by which the next load is delivered
abbrev pub delivery : List Call
delivery = Send ∷ Carry ∷ Tell ∷ Reply ∷ Return ∷ []
