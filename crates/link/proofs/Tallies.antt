-- The outcome of a history's last message, from a count of the loads told that is kept turn by turn.
use Rattle.std.proofs.Common.{◌≡◌, ℕ, suc, ◌+◌, Bool, true, false, List, [], ◌∷◌, length, Ok, Err, Result, Some, None, Option, refl, ap, ◌∙◌, add-zero, zero-add, arith}
use Rattle.std.specs.List.{last_or}
use Rattle.link.specs.declared.refusals.LinkRefusal.{LinkRefusal}
use Rattle.link.specs.declared.refusals.LinkRefusal.TheVariants.{StillOpen}
use Rattle.link.specs.declared.words.Word.{Word}
use Rattle.link.specs.Turns.{Turn, asks, tells, ends}
use Rattle.link.specs.Messages.{Message, up_to_word, messages, told_in, said}
use Rattle.link.specs.Laws.{message_outcome, last_outcome}
use Rattle.link.proofs.Watches.{Watch, advance, Rightly}

-- a count of the loads told, and the outcome with it, kept turn by turn
abbrev pub tally : {T : Type 0} → Result (Word × ℕ) LinkRefusal → ℕ → List (Turn T) → Result (Word × ℕ) LinkRefusal
tally last told [] = last
tally last told (asks start count ∷ turns) = tally (Err StillOpen) 0 turns
tally last told (tells position load ∷ turns) = tally last (told + 1) turns
tally last told (ends word ∷ turns) = tally (Ok (word, told)) told turns
tally last told (turn ∷ turns) = tally last told turns

-- the outcome of the last of these messages, or else the one that is given
abbrev pub outcome_or : {T : Type 0} → Result (Word × ℕ) LinkRefusal → List (Message T) → Result (Word × ℕ) LinkRefusal
outcome_or last [] = last
outcome_or last (message ∷ later) = outcome_or (last_outcome (Some message)) later

pub last_is : {T : Type 0} (last : Option (Message T)) (messages : List (Message T))
    → outcome_or (last_outcome last) messages ≡ last_outcome (last_or last messages)
last_is last [] = refl
last_is last (message ∷ later) = last_is (Some message) later

one_told : (word : Option Word) (told more : ℕ) → message_outcome word (told + 1 + more) ≡ message_outcome word (told + suc more)
one_told None told more = refl
one_told (Some word) told more = ap (λ n. Ok (word, n)) (omega arith)

-- the outcome so far, as the count has it and as the last message says it, by whether a message is open
abbrev counted : Bool → Result (Word × ℕ) LinkRefusal → Result (Word × ℕ) LinkRefusal
counted true last = Err StillOpen
counted false last = last

abbrev so_far : {T : Type 0} → Bool → Result (Word × ℕ) LinkRefusal → ℕ → List (Turn T) → Result (Word × ℕ) LinkRefusal
so_far true last told turns = message_outcome (said (up_to_word turns)) (told + length (told_in (up_to_word turns)))
so_far false last told turns = last

module _ {T : Type 0} (book : List T) (repeats : ℕ) where
  -- the count leads to the outcome of the last message
  pub tally_right : (busy : Bool) (w : Watch T) (last : Result (Word × ℕ) LinkRefusal) (told : ℕ) (turns : List (Turn T)) → w.«open» ≡ busy
      → Rightly book repeats w turns → tally (counted busy last) told turns ≡ outcome_or (so_far busy last told turns) (messages turns)
  tally_right true w last told [] busy rightly = refl
  tally_right false w last told [] busy rightly = refl
  tally_right true w last told (asks start count ∷ turns) busy (right, rightly) = cc
  tally_right false w last told (asks start count ∷ turns) busy (right, rightly) =
      tally_right true (advance book w (asks start count)) last 0 turns refl rightly
      ∙ rw (zero-add (length (told_in (up_to_word turns)))) refl
  tally_right true w last told (tells position load ∷ turns) busy (right, rightly) =
      tally_right true (advance book w (tells position load)) last (told + 1) turns busy rightly
      ∙ ap (λ last. outcome_or last (messages turns)) (one_told (said (up_to_word turns)) told (length (told_in (up_to_word turns))))
  tally_right false w last told (tells position load ∷ turns) busy (right, rightly) =
      tally_right false (advance book w (tells position load)) last (told + 1) turns busy rightly
  tally_right true w last told (ends word ∷ turns) busy (right, rightly) =
      rw (add-zero told) (tally_right false (advance book w (ends word)) (Ok (word, told)) told turns refl rightly)
  tally_right false w last told (ends word ∷ turns) busy (right, rightly) = cc
  tally_right true w last told (turn ∷ turns) busy (right, rightly) = tally_right true (advance book w turn) last told turns busy rightly
  tally_right false w last told (turn ∷ turns) busy (right, rightly) = tally_right false (advance book w turn) last told turns busy rightly
