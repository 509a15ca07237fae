-- How many calls were made, and the sum of what they answer.
use Rattle.std.specs.Prelude.{ℕ, ◌+◌, ◌%◌, ◌^◌, Ok, Err, Result}
use Rattle.loads.specs.declared.readings.Reading.{Reading}
use Rattle.link.specs.declared.events.Answer.{Answer}
use Rattle.link.specs.declared.events.Answer.TheVariants.{Told, Confirmed}
use Rattle.link.specs.declared.refusals.LinkRefusal.{LinkRefusal}
use Rattle.link.specs.declared.words.Word.{Word}
use Rattle.link.specs.declared.words.Word.TheVariants as word
use Rattle.link.specs.Refusals.{number_of}
use Rattle.pace.specs.declared.tallies.Tally.{Tally}

-- before the first call
abbrev pub no_calls : Tally
no_calls = record { calls = 0; sum = 0 }

-- a value more in the sum, which has 32 bits
abbrev pub added : ℕ → Tally → Tally
added value tally = record { calls = tally.calls; sum = (tally.sum + value) % 2 ^ 32 }

-- a call more in the count, which has 64
abbrev pub one_more : Tally → Tally
one_more tally = record { calls = (tally.calls + 1) % 2 ^ 64; sum = tally.sum }

-- a call with its answer: one that is turned down adds its number
abbrev pub taken : {X : Type 0} → Result X LinkRefusal → Tally → Tally
taken (Ok shown) tally = one_more tally
taken (Err why) tally = added (number_of why) (one_more tally)

-- a word as a number
abbrev pub word_number : Word → ℕ
word_number word.Ok = 0
word_number word.NotOk = 1
word_number word.DontKnow = 2

-- a call of any kind with its answer: a load that is told adds its value, and a word its number
abbrev pub counted : Result (Answer Reading) LinkRefusal → Tally → Tally
counted (Ok (Told position load)) tally = added load.value (one_more tally)
counted (Ok (Confirmed word)) tally = added (word_number word) (one_more tally)
counted answer tally = taken answer tally
