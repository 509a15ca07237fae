-- The answers of a put and of a poll, as they are known outside.
use Rattle.std.specs.Prelude.{ℕ, List, codes, Result}
use Rattle.loads.specs.Refusals.{answer_number}
use Rattle.channel.specs.declared.polls.Poll.{Poll}
use Rattle.channel.specs.declared.polls.Poll.TheVariants.{Empty, Still, Arrived, Lost}
use Rattle.channel.specs.declared.refusals.Full.{Full}

-- the number of a refused put
abbrev pub full_number : ℕ
full_number = 11

-- the number of a put's answer
abbrev pub put_number : Result (Unit {0}) Full → ℕ
put_number answer = answer_number (λ full. full_number) answer

-- the word of a poll's answer
abbrev pub poll_word : {T : Type 0} → Poll T → List ℕ
poll_word Empty = codes "EMPTY"
poll_word Still = codes "STILL"
poll_word (Arrived frame) = codes "ARRIVED"
poll_word Lost = codes "LOST"
