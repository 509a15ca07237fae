-- The messages of a history, and what is read off each.
use Rattle.std.specs.Prelude.{ℕ, Bool, true, false, List, [], ◌∷◌, map, filter, filter_map, length, take, drop, Some, None, Option}
use Rattle.std.specs.List.{list_any, slice_get, slice_split}
use Rattle.link.specs.declared.words.Position.{Position}
use Rattle.link.specs.declared.words.Word.{Word}
use Rattle.link.specs.Turns.{Turn, asks, tells, replied, loses, gives_up, ends}

-- `start` and `count` are those of the request; `turns` is what belongs to the message: what follows the request, up to the
-- next word, or to the end of the history
pub record Message (T : Type 0) : Type 0 where
  pub start : ℕ
  pub count : ℕ
  pub turns : List (Turn T)

module _ {T : Type 0} where
  -- turns up to the first word, with it
  abbrev pub up_to_word : List (Turn T) → List (Turn T)
  up_to_word [] = []
  up_to_word (ends word ∷ turns) = ends word ∷ []
  up_to_word (turn ∷ turns) = turn ∷ up_to_word turns

  -- a message begins with each request
  abbrev pub messages : List (Turn T) → List (Message T)
  messages [] = []
  messages (asks start count ∷ turns) = record { start = start; count = count; turns = up_to_word turns } ∷ messages turns
  messages (turn ∷ turns) = messages turns

  -- its loads
  abbrev pub loads_of : List T → Message T → List T
  loads_of book message = take message.count (drop message.start book)

  -- what the hut is told: loads with their positions
  abbrev pub telling : Turn T → Option (Position × T)
  telling (tells position load) = Some (position, load)
  telling turn = None

  abbrev pub told_in : List (Turn T) → List (Position × T)
  told_in turns = filter_map telling turns

  -- the word, if there is one
  abbrev pub word_in : Turn T → Option Word
  word_in (ends word) = Some word
  word_in turn = None

  abbrev pub said : List (Turn T) → Option Word
  said turns = slice_get (filter_map word_in turns) 0

  -- whether it was abandoned
  abbrev pub is_abandon : Turn T → Bool
  is_abandon gives_up = true
  is_abandon turn = false

  abbrev pub is_abandoned : List (Turn T) → Bool
  is_abandoned turns = list_any is_abandon turns

  -- the losses of each of its loads: those before the first reply, those between that and the second, and so on
  abbrev pub is_reply : Turn T → Bool
  is_reply replied = true
  is_reply turn = false

  abbrev pub is_loss : Turn T → Bool
  is_loss (loses lost) = true
  is_loss turn = false

  abbrev pub losses : List (Turn T) → List ℕ
  losses turns = map (λ own. length (filter is_loss own)) (slice_split is_reply turns)
