-- A history seen turn by turn, with no machine: what is still to come of a message, and what follows for its word.
use Rattle.std.proofs.Common.{◌≡◌, ◌↔◌, ℕ, zero, suc, pred, ◌+◌, ◌<◌, ◌≤◌, Bool, true, false, ◌||◌, List, [], ◌∷◌, take, drop, map, length, Some, None, Option, refl, ap, add-zero, zero-add, arith, rules, tests}
use Rattle.std.specs.Prelude.{◌==◌, IfSome, IsFalse, All, filter}
use Rattle.std.specs.List.{list_any, slice_split, onto_first}
use Rattle.std.proofs.Math.Seq.{take-nil}
use Rattle.std.proofs.lemmas.List.Elements.{All-nil, All-cons}
use Rattle.link.specs.declared.words.Position.{Position}
use Rattle.link.specs.declared.words.Word.{Word}
use Rattle.link.specs.declared.words.Word.TheVariants as word
use Rattle.link.specs.Turns.{Loss, Turn, asks, tells, replied, loses, gives_up, ends}
use Rattle.link.specs.Messages.{up_to_word, messages, loads_of, told_in, said, is_abandoned, is_reply, is_loss, losses}
use Rattle.link.specs.Laws.{positioned, WordFits, IsTruthful}

-- of the message that is open: what is still to be told, how many of its loads have no reply, the losses of the first of
-- these, and whether it was abandoned
pub record Watch (T : Type 0) : Type 0 where
  pub «open» : Bool
  pub left : List (Position × T)
  pub count : ℕ
  pub loss : ℕ
  pub given : Bool

-- the losses of loads, with so many more of the first
abbrev add_first : ℕ → List ℕ → List ℕ
add_first more [] = more ∷ []
add_first more (lost ∷ later) = (more + lost) ∷ later

-- whether one of so many loads met one loss more than the repeats
abbrev any_overrun : ℕ → ℕ → List ℕ → Bool
any_overrun repeats count lost = list_any (λ lost. lost == repeats + 1) (take count lost)

add_none : (repeats count : ℕ) (lost : List ℕ) → any_overrun repeats count (add_first 0 lost) ≡ any_overrun repeats count lost
add_none repeats zero lost = refl
add_none repeats (suc count) [] = let none : (0 == repeats + 1) ≡ false = search (rules, tests) in rw (none, take-nil count) refl
add_none repeats (suc count) (lost ∷ later) = rw (zero-add lost) refl

or_true : (b : Bool) → (b || true) ≡ true
or_true true = refl
or_true false = refl

-- a load more was told: what is said of the rest holds with it
fits_more : (word : Option Word) (left told : ℕ) → IfSome word (λ word. WordFits word left told)
    → IfSome word (λ word. WordFits word (suc left) (suc told))
fits_more None left told fits = tt
fits_more (Some word.Ok) left told fits = ap suc fits
fits_more (Some word.NotOk) left told fits = omega arith
fits_more (Some word.DontKnow) left told fits = omega arith

module _ {T : Type 0} where
  -- the watch over a message with these loads
  abbrev pub fresh : List T → Watch T
  fresh loads = record { «open» = true; left = positioned true loads; count = length loads; loss = 0; given = false }

  abbrev pub advance : List T → Watch T → Turn T → Watch T
  advance book w (asks start count) = fresh (take count (drop start book))
  advance book w (tells position load) = record w { left = drop 1 w.left }
  advance book w replied = record w { count = pred w.count; loss = 0 }
  advance book w (loses lost) = record w { loss = w.loss + 1 }
  advance book w gives_up = record w { given = true }
  advance book w (ends word) = record w { «open» = false }
  advance book w turn = w

  -- a word other than OK has a reason
  abbrev pub Failed : ℕ → Watch T → Type 0
  Failed repeats w = (0 < w.count) × ((w.given || (w.loss == repeats + 1)) ≡ true)

  -- a word against what is left
  abbrev pub Ended : ℕ → Watch T → Word → Type 0
  Ended repeats w word.Ok = (w.left ≡ []) × (w.count ≡ 0) × (w.given ≡ false)
  Ended repeats w word.NotOk = (0 < length w.left) × Failed repeats w
  Ended repeats w word.DontKnow = (length w.left ≤ 1) × Failed repeats w

  -- a turn is as it should be
  abbrev pub Right : ℕ → Watch T → Turn T → Type 0
  Right repeats w (asks start count) = (w.«open» ≡ false) × (count ≤ 4096)
  Right repeats w (tells position load) = w.left ≡ (position, load) ∷ drop 1 w.left
  Right repeats w replied = (w.loss ≤ repeats) × (0 < w.count)
  Right repeats w (ends word) = (w.«open» ≡ true) × Ended repeats w word
  Right repeats w turn = Unit {0}

  abbrev pub Rightly : List T → ℕ → Watch T → List (Turn T) → Type 0
  Rightly book repeats w [] = Unit {0}
  Rightly book repeats w (turn ∷ turns) = Right repeats w turn × Rightly book repeats (advance book w turn) turns

  -- the losses in each part of a message
  abbrev counts : List (List (Turn T)) → List ℕ
  counts parts = map (λ own. length (filter is_loss own)) parts

  first_loses : (lost : Loss) (more : ℕ) (parts : List (List (Turn T)))
      → add_first more (counts (onto_first (loses lost) parts)) ≡ add_first (more + 1) (counts parts)
  first_loses lost more [] = refl
  first_loses lost more (part ∷ parts) = ap (λ n. n ∷ counts parts) (omega arith)

  first_other : (turn : Turn T) (more : ℕ) (parts : List (List (Turn T))) → is_loss turn ≡ false
      → add_first more (counts (onto_first turn parts)) ≡ add_first more (counts parts)
  first_other turn more [] kept = rw (kept, add-zero) refl
  first_other turn more (part ∷ parts) kept = rw kept refl

  -- whether a load of an open message overruns, with the losses so far of the first without a reply
  abbrev over : ℕ → ℕ → ℕ → List (Turn T) → Bool
  over repeats loss count turns = any_overrun repeats count (add_first loss (losses turns))

  over_replied : (repeats loss count : ℕ) (turns : List (Turn T)) → loss ≤ repeats → 0 < count
      → over repeats loss count (replied ∷ turns) ≡ over repeats 0 (pred count) turns
  over_replied repeats loss zero turns few some = search (rules, tests)
  over_replied repeats loss (suc count) turns few some =
      let within : (loss + 0 == repeats + 1) ≡ false = search (rules, tests) in
      rw (within, ← add_none repeats count (losses turns)) refl

  over_loses : (repeats loss count : ℕ) (lost : Loss) (turns : List (Turn T))
      → over repeats loss count (loses lost ∷ turns) ≡ over repeats (loss + 1) count turns
  over_loses repeats loss count lost turns = ap (any_overrun repeats count) (first_loses lost loss (slice_split is_reply turns))

  over_other : (repeats loss count : ℕ) (turn : Turn T) (turns : List (Turn T)) → is_reply turn ≡ false → is_loss turn ≡ false
      → over repeats loss count (turn ∷ turns) ≡ over repeats loss count turns
  over_other repeats loss count turn turns waits kept =
      rw waits (ap (any_overrun repeats count) (first_other turn loss (slice_split is_reply turns) kept))

  -- what is true of the rest of an open message
  pub record Said (repeats : ℕ) (w : Watch T) (turns : List (Turn T)) : Type 0 where
    pub in_order : told_in turns ≡ take (length (told_in turns)) w.left
    pub word_fits : IfSome (said turns) (λ word. WordFits word (length w.left) (length (told_in turns)))
    pub failure : IfSome (said turns) (λ said. (said ≡ word.Ok)
        ↔ IsFalse ((w.given || is_abandoned turns) || over repeats w.loss w.count turns))

  failing : (repeats loss count : ℕ) (given : Bool) (word : Word) (turns : List (Turn T)) → turns ≡ ends word ∷ [] → 0 < count
      → (given || (loss == repeats + 1)) ≡ true → ((given || false) || over repeats loss count turns) ≡ true
  failing repeats loss zero given word turns just some why = search (rules, tests)
  failing repeats loss (suc count) true word turns just some why = refl
  failing repeats loss (suc count) false word turns just some why = rw just (rw (add-zero loss, why) refl)

  ended : (repeats : ℕ) (w : Watch T) (word : Word) → Ended repeats w word → Said repeats w (ends word ∷ [])
  ended repeats w word.Ok (left, count, given) = record {
    in_order = refl;
    word_fits = rw left refl;
    failure = rw (count, given) ((λ ok. refl), (λ kept. refl));
  }
  ended repeats w word.NotOk (left, (some, why)) = record {
    in_order = refl;
    word_fits = left;
    failure = rw (failing repeats w.loss w.count w.given word.NotOk (ends word.NotOk ∷ []) refl some why) ((λ ok. cc), (λ kept. cc));
  }
  ended repeats w word.DontKnow (left, (some, why)) = record {
    in_order = refl;
    word_fits = left;
    failure = rw (failing repeats w.loss w.count w.given word.DontKnow (ends word.DontKnow ∷ []) refl some why) ((λ ok. cc), (λ kept. cc));
  }

  said_told : (repeats : ℕ) (w : Watch T) (position : Position) (load : T) (turns : List (Turn T)) → w.left ≡ (position, load) ∷ drop 1 w.left
      → Said repeats (record w { left = drop 1 w.left }) turns → Said repeats w (tells position load ∷ turns)
  said_told repeats w position load turns next rest = record {
    in_order = rw next (λ i. (position, load) ∷ rest.in_order i);
    word_fits = rw next (fits_more _ _ _ rest.word_fits);
    failure = rw (over_other repeats w.loss w.count (tells position load) turns refl refl) rest.failure;
  }

  said_replied : (repeats : ℕ) (w : Watch T) (turns : List (Turn T)) → w.loss ≤ repeats → 0 < w.count
      → Said repeats (record w { count = pred w.count; loss = 0 }) turns → Said repeats w (replied ∷ turns)
  said_replied repeats w turns few some rest = record {
    in_order = rest.in_order;
    word_fits = rest.word_fits;
    failure = rw (over_replied repeats w.loss w.count turns few some) rest.failure;
  }

  said_loses : (repeats : ℕ) (w : Watch T) (lost : Loss) (turns : List (Turn T))
      → Said repeats (record w { loss = w.loss + 1 }) turns → Said repeats w (loses lost ∷ turns)
  said_loses repeats w lost turns rest = record {
    in_order = rest.in_order;
    word_fits = rest.word_fits;
    failure = rw (over_loses repeats w.loss w.count lost turns) rest.failure;
  }

  said_gives : (repeats : ℕ) (w : Watch T) (turns : List (Turn T)) → Said repeats (record w { given = true }) turns → Said repeats w (gives_up ∷ turns)
  said_gives repeats w turns rest = record {
    in_order = rest.in_order;
    word_fits = rest.word_fits;
    failure = rw (or_true w.given) rest.failure;
  }

  -- a turn that says nothing of what the law speaks of
  said_other : (repeats : ℕ) (w : Watch T) (turn : Turn T) (turns : List (Turn T)) → is_reply turn ≡ false → is_loss turn ≡ false
      → told_in (turn ∷ turns) ≡ told_in turns → said (turn ∷ turns) ≡ said turns → is_abandoned (turn ∷ turns) ≡ is_abandoned turns
      → Said repeats w turns → Said repeats w (turn ∷ turns)
  said_other repeats w turn turns waits kept told word gave rest = record {
    in_order = rw told rest.in_order;
    word_fits = rw (word, told) rest.word_fits;
    failure = rw (word, gave, over_other repeats w.loss w.count turn turns waits kept) rest.failure;
  }

  pub positioned_length : (first : Bool) (loads : List T) → length (positioned first loads) ≡ length loads
  positioned_length first [] = refl
  positioned_length first (load ∷ []) = refl
  positioned_length first (load ∷ next ∷ loads) = ap suc (positioned_length false (next ∷ loads))

  said_fresh : (repeats : ℕ) (loads : List T) (turns : List (Turn T)) → Said repeats (fresh loads) turns → IsTruthful repeats loads turns
  said_fresh repeats loads turns said = record {
    in_order = said.in_order;
    word_fits = rw (positioned_length true loads) at said.word_fits;
    failure = rw (add_none repeats (length loads) (losses turns)) at said.failure;
  }

module _ {T : Type 0} (book : List T) (repeats : ℕ) where
  -- turns that are as they should be say what is true of the open message
  rightly_said : (w : Watch T) (turns : List (Turn T)) → w.«open» ≡ true → Rightly book repeats w turns → Said repeats w (up_to_word turns)
  rightly_said w [] busy rightly = record { in_order = refl; word_fits = tt; failure = tt }
  rightly_said w (asks start count ∷ turns) busy (right, rightly) = cc
  rightly_said w (tells position load ∷ turns) busy (right, rightly) =
      said_told repeats w position load (up_to_word turns) right (rightly_said (advance book w (tells position load)) turns busy rightly)
  rightly_said w (replied ∷ turns) busy (right, rightly) =
      said_replied repeats w (up_to_word turns) right.0 right.1 (rightly_said (advance book w replied) turns busy rightly)
  rightly_said w (loses lost ∷ turns) busy (right, rightly) =
      said_loses repeats w lost (up_to_word turns) (rightly_said (advance book w (loses lost)) turns busy rightly)
  rightly_said w (gives_up ∷ turns) busy (right, rightly) = said_gives repeats w (up_to_word turns) (rightly_said (advance book w gives_up) turns busy rightly)
  rightly_said w (ends word ∷ turns) busy (right, rightly) = ended repeats w word right.1
  rightly_said w (turn ∷ turns) busy (right, rightly) =
      said_other repeats w turn (up_to_word turns) refl refl refl refl refl (rightly_said w turns busy rightly)

  -- and each message of theirs is truthful
  pub rightly_truthful : (w : Watch T) (turns : List (Turn T)) → Rightly book repeats w turns
      → All (λ message. IsTruthful repeats (loads_of book message) message.turns) (messages turns)
  rightly_truthful w [] rightly = All-nil (λ message. IsTruthful repeats (loads_of book message) message.turns)
  rightly_truthful w (asks start count ∷ turns) (right, rightly) =
      let loads = take count (drop start book) in
      let truthful = said_fresh repeats loads (up_to_word turns) (rightly_said (fresh loads) turns refl rightly) in
      All-cons (λ message. IsTruthful repeats (loads_of book message) message.turns) (record { start = start; count = count; turns = up_to_word turns }) (messages turns) truthful
      (rightly_truthful (advance book w (asks start count)) turns rightly)
  rightly_truthful w (turn ∷ turns) (right, rightly) = rightly_truthful (advance book w turn) turns rightly
