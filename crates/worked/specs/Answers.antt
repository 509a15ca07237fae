-- What the definitions of the other contracts answer to a question.
use Rattle.std.specs.Prelude.{ℕ, List, Result}
use Rattle.std.specs.Result.{result_map_both}
use Rattle.loads.specs.Faults.{number_of as fault_number}
use Rattle.loads.specs.Pieces.{piece_of}
use Rattle.loads.specs.declared.pieces.Piece.{Piece}
use Rattle.loads.specs.declared.readings.Reading.{Reading}
use Rattle.link.specs.Calls as rule
use Rattle.link.specs.Refusals.{number_of, timer_number}
use Rattle.link.specs.States.{started}
use Rattle.link.specs.Timers.{timers_fit}

-- an answer, with its refusal as a number
abbrev pub numbered : {X E : Type 0} → (E → ℕ) → Result X E → Result X ℕ
numbered number answer = result_map_both (λ made. made) number answer

-- the piece of these fields
abbrev pub piece_answer : ℕ → ℕ → ℕ → ℕ → ℕ → Result Piece ℕ
piece_answer zoom column row number body = numbered fault_number (piece_of zoom column row number body)

-- a request from a start and of a count, on a link that has just joined
abbrev pub request_answer : List Reading → ℕ → ℕ → Result (Unit {0}) ℕ
request_answer book start count = numbered number_of (rule.request book start count (started 0)).answer

-- whether timers fit: repeats, the bound, t1 and t2
abbrev pub timer_answer : ℕ → ℕ → ℕ → ℕ → Result (Unit {0}) ℕ
timer_answer repeats bound t1 t2 = numbered timer_number (timers_fit repeats bound t1 t2)
