-- What is true of every history: of each message, what the hut is told, its word, and when that is OK; and of the outcome.
use Rattle.std.specs.Prelude.{◌≡◌, ◌↔◌, ℕ, ◌+◌, ◌<◌, ◌≤◌, Bool, true, false, ◌||◌, if◌then◌else◌, IsFalse, List, [], ◌∷◌, take, length, Ok, Err, Result, Some, None, Option, IfSome, All, ◌==◌}
use Rattle.std.specs.List.{list_any, last_or}
use Rattle.link.specs.declared.events.Event.{Event}
use Rattle.link.specs.declared.refusals.LinkRefusal.{LinkRefusal}
use Rattle.link.specs.declared.refusals.LinkRefusal.TheVariants.{StillOpen, NoneConfirmed}
use Rattle.link.specs.declared.words.Position.{Position}
use Rattle.link.specs.declared.words.Position.TheVariants as position
use Rattle.link.specs.declared.words.Word.{Word}
use Rattle.link.specs.declared.words.Word.TheVariants as word
use Rattle.link.specs.Messages.{Message, messages, loads_of, told_in, said, is_abandoned, losses}
use Rattle.link.specs.Turns.{Turn, turns}

-- the loads of a message with their positions: OK for the last, else FIRST for the first, else INCOMPLETE. `first` is whether
-- the first of them is the message's first
abbrev pub positioned : {T : Type 0} → Bool → List T → List (Position × T)
positioned first [] = []
positioned first (load ∷ []) = (position.Ok, load) ∷ []
positioned first (load ∷ loads) = (if first then position.First else position.Incomplete, load) ∷ positioned false loads

-- a word against how many loads there are and how many were told: OK only if all were, NOT_OK only if at least one was not,
-- DONT_KNOW only if all were, or all but the last
abbrev pub WordFits : Word → ℕ → ℕ → Type 0
WordFits word.Ok loads told = told ≡ loads
WordFits word.NotOk loads told = told < loads
WordFits word.DontKnow loads told = loads ≤ told + 1

-- whether a message of so many loads was abandoned, or one of its loads met one loss more than the repeats
abbrev pub has_failed : {T : Type 0} → ℕ → ℕ → List (Turn T) → Bool
has_failed repeats count turns = is_abandoned turns || list_any (λ lost. lost == repeats + 1) (take count (losses turns))

-- the law of a message, by its loads and what belongs to it
pub record IsTruthful {T : Type 0} (repeats : ℕ) (loads : List T) (turns : List (Turn T)) : Type 0 where
  -- the hut is told a first part of its loads, in order, each once and with its position
  pub in_order : told_in turns ≡ take (length (told_in turns)) (positioned true loads)
  -- its word, if it has one, fits what was told
  pub word_fits : IfSome (said turns) (λ word. WordFits word (length loads) (length (told_in turns)))
  -- and is OK exactly if the message did not fail
  pub failure : IfSome (said turns) (λ said. (said ≡ word.Ok) ↔ IsFalse (has_failed repeats (length loads) turns))

-- the outcome of a message, if it has a word: the word, and how many of its loads were told
abbrev pub message_outcome : Option Word → ℕ → Result (Word × ℕ) LinkRefusal
message_outcome None told = Err StillOpen
message_outcome (Some word) told = Ok (word, told)

module _ {T : Type 0} where
  -- the law of a history: every message of it is truthful
  abbrev pub IsLawful : List T → ℕ → List (Event T) → Type 0
  IsLawful book repeats history =
      All (λ message. IsTruthful repeats (loads_of book message) message.turns) (messages (turns history))

  -- the outcome of a history: that of its last message
  abbrev pub last_outcome : Option (Message T) → Result (Word × ℕ) LinkRefusal
  last_outcome None = Err NoneConfirmed
  last_outcome (Some message) = message_outcome (said message.turns) (length (told_in message.turns))

  abbrev pub outcome_of : List (Event T) → Result (Word × ℕ) LinkRefusal
  outcome_of history = last_outcome (last_or None (messages (turns history)))
