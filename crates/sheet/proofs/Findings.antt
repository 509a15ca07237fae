-- Where the conditions of records apply in a list that was read, or refused.
use Rattle.std.proofs.Common.{◌≡◌, ◌⊎◌, inl, inr, ℕ, zero, suc, ◌+◌, ◌*◌, ◌<◌, ◌≤◌, ◌==◌, false, List, [], ◌∷◌, ◌++◌, length, get_or, Ok, Err, Result, IsErr, Some, None, Option, take, drop, subst, refl, ap, sym, ◌∙◌, rules, tests, arith}
use Rattle.std.specs.List.{flat_map}
use Rattle.std.specs.Option.{option_map}
use Rattle.std.specs.Result.{result_ok}
use Rattle.std.proofs.Math.Nat.{mul-suc}
use Rattle.std.proofs.Math.Seq.{drop-append-add, drop-append_seam}
use Rattle.std.proofs.lemmas.List.{append_assoc, length-append, length-drop, length-take, take-append-drop}
use Rattle.std.proofs.lemmas.List.Elements.{All-drop}
use Rattle.loads.specs.declared.kinds.Load.{Ghosts}
use Rattle.link.specs.declared.calls.Call.{Call}
use Rattle.link.specs.declared.calls.Call.TheVariants.{Request}
use Rattle.link.specs.Words.{letter}
use Rattle.sheet.specs.declared.faults.SheetRefusal.{SheetRefusal}
use Rattle.sheet.specs.declared.faults.SheetRefusal.TheVariants.{NoLoad, BadMark, BadCall}
use Rattle.sheet.specs.declared.parts.Way.{Way}
use Rattle.sheet.specs.declared.sections.SectionKind.{SectionKind}
use Rattle.sheet.specs.declared.sections.SectionKind.TheVariants as section
use Rattle.sheet.specs.Conditions.{HasNoLoad, HasBadMark, BeginWithNoCall, HasBadCall}
use Rattle.sheet.specs.Faults.{and_then}
use Rattle.sheet.specs.Parts.{Meaning, a_load, a_mark, a_call, PartState}
use Rattle.sheet.specs.Records.{refusal_of, first_mark, first_call, first_request, first_meaning, plain_call, record_size, record_with, request_letter}
use Rattle.sheet.specs.Sections.{PartsRead, before, records_read}
use Rattle.sheet.specs.Spellings.{call_spelled}
use Rattle.sheet.proofs.OctetLaws.{AreOctets}
use Rattle.sheet.proofs.RecordLaws.{IsSized, by_test, call_first, call_size, same_size}

-- by what there is
pub by_option : {X R : Type 0} (option : Option X) → ((x : X) → option ≡ Some x → R) → (option ≡ None → R) → R
by_option (Some x) some none = some x refl
by_option None some none = none refl

pub by_result : {X E R : Type 0} (result : Result X E) → ((x : X) → result ≡ Ok x → R) → ((e : E) → result ≡ Err e → R) → R
by_result (Ok x) ok err = ok x refl
by_result (Err e) ok err = err e refl

-- what lies so far behind the first octets
drop_on : (size more : ℕ) (octets : List ℕ) → length (take size octets) ≡ size → drop (size + more) octets ≡ drop more (drop size octets)
drop_on size more octets is =
    ap (λ size. drop (size + more) octets) (sym is) ∙ ap (λ all. drop (length (take size octets) + more) all) (sym (take-append-drop size octets)) ∙ drop-append-add (take size octets) (drop size octets) more

-- marks
mark_there : (room start octet : ℕ) (octets : List ℕ) → octet ≤ 2 → (place : ℕ) → HasBadMark (suc room) start (octet ∷ octets) place → HasBadMark room (start + 1) octets place
mark_there room start octet octets small place (zero, at, less, inl above) = absurd (omega arith)
mark_there room start octet octets small place (zero, at, less, inr many) = absurd (omega arith)
mark_there room start octet octets small place (suc others, at, less, inl above) = (others, omega arith, omega arith, inl above)
mark_there room start octet octets small place (suc others, at, less, inr many) = (others, omega arith, omega arith, inr (omega arith))

mark_back : (room start octet : ℕ) (octets : List ℕ) (place : ℕ) → HasBadMark room (start + 1) octets place → HasBadMark (suc room) start (octet ∷ octets) place
mark_back room start octet octets place (others, at, less, inl above) = (suc others, omega arith, omega arith, inl above)
mark_back room start octet octets place (others, at, less, inr many) = (suc others, omega arith, omega arith, inr (omega arith))

-- one call more
fewer : (room : ℕ) (others : List Call) (rest : List ℕ) → (BeginWithNoCall rest) ⊎ (suc (length others) ≡ suc room) → (BeginWithNoCall rest) ⊎ (length others ≡ room)
fewer room others rest (inl none) = inl none
fewer room others rest (inr many) = inr (omega arith)

more : (room : ℕ) (others : List Call) (rest : List ℕ) → (BeginWithNoCall rest) ⊎ (length others ≡ room) → (BeginWithNoCall rest) ⊎ (suc (length others) ≡ suc room)
more room others rest (inl none) = inl none
more room others rest (inr many) = inr (omega arith)

-- a call begins with its letter
begins : (call : Call) (behind : List ℕ) (octet : ℕ) (octets : List ℕ) → octet ∷ octets ≡ call_spelled call ++ behind → letter call ≡ octet
begins (Request start count) behind octet octets is = ap (λ all. get_or all 0 0) (sym is)
begins call behind octet octets is = ap (λ all. get_or all 0 0) (sym is)

-- no letter of a call
not_found : (call : Call) (octet : ℕ) → plain_call octet ≡ None → (octet == request_letter) ≡ false → letter call ≡ octet → ⊥
not_found (Request start count) octet none fails same = search (rules, subst (λ octet. (octet == request_letter) ≡ false) (sym same) fails)
not_found call octet none fails same = search (rules, subst (λ octet. plain_call octet ≡ None) (sym same) none)

-- octets that are not read begin with no call
no_call : (octet : ℕ) (octets : List ℕ) → first_call (octet ∷ octets) ≡ None → BeginWithNoCall (octet ∷ octets)
no_call octet octets is = by_test (octet == request_letter) (first_request (octet ∷ octets)) (plain_call octet) None is
    (λ passes none. inr (search (rules, tests, passes), search (rules, tests, none)))
    (λ fails none. inl (λ call same. not_found call octet none fails same))

module _ (octet : ℕ) (octets : List ℕ) (call : Call) (size : ℕ) (sized : size ≡ length (call_spelled call)) (same : letter call ≡ octet) (spelled : take size (octet ∷ octets) ≡ call_spelled call) where
  -- and those that are read do not
  some_call : BeginWithNoCall (octet ∷ octets) → ⊥
  some_call (inl none) = none call same
  some_call (inr (q, short)) =
      let five : length (call_spelled call) ≡ 5 = same_size call (Request 0 0) (same ∙ q) in
      let fits : length (take size (octet ∷ octets)) ≤ length (octet ∷ octets) = omega (arith, length-take size (octet ∷ octets)) in
      omega (arith, five, fits, ap length spelled)

  -- no call behind a call
  call_there : (room start place : ℕ) → HasBadCall (suc room) start (octet ∷ octets) place → HasBadCall room (start + length (take size (octet ∷ octets))) (drop size (octet ∷ octets)) place
  call_there room start place ([], rest, whole, at, some, inl none) = absurd (some_call (subst BeginWithNoCall (sym whole) none))
  call_there room start place ([], rest, whole, at, some, inr many) = absurd (omega arith)
  call_there room start place (other ∷ others, rest, whole, at, some, bad) =
      let behind = flat_map call_spelled others in
      let all : octet ∷ octets ≡ call_spelled other ++ (behind ++ rest) = whole ∙ append_assoc (call_spelled other) behind rest in
      let long : length (call_spelled other) ≡ size = same_size other call (begins other (behind ++ rest) octet octets all ∙ sym same) ∙ sym sized in
      let cut : drop size (octet ∷ octets) ≡ behind ++ rest = ap (λ size. drop size (octet ∷ octets)) (sym long) ∙ ap (drop (length (call_spelled other))) all ∙ drop-append_seam (call_spelled other) (behind ++ rest) in
      (others, rest, cut, omega (arith, at, long, sized, ap length spelled, length-append (call_spelled other) behind), some, fewer room others rest bad)

  call_back : (room start place : ℕ) → HasBadCall room (start + length (take size (octet ∷ octets))) (drop size (octet ∷ octets)) place → HasBadCall (suc room) start (octet ∷ octets) place
  call_back room start place (others, rest, whole, at, some, bad) =
      let behind = flat_map call_spelled others in
      let all : octet ∷ octets ≡ (call_spelled call ++ behind) ++ rest = sym (take-append-drop size (octet ∷ octets)) ∙ (λ i. spelled i ++ whole i) ∙ sym (append_assoc (call_spelled call) behind rest) in
      (call ∷ others, rest, all, omega (arith, at, ap length spelled, length-append (call_spelled call) behind), some, more room others rest bad)

module _ {T : Type 0} where
  -- what reading tells of a condition: where it is refused, that the condition applies there and nowhere before; where it
  -- is not, that it applies nowhere
  abbrev pub Tells : SheetRefusal → (ℕ → Type 0) → PartsRead T → Type 0
  Tells refusal Applies (Ok parts) = (place : ℕ) → Applies place → ⊥
  Tells refusal Applies (Err fault) = (fault.refusal ≡ refusal) × Applies fault.place × ((place : ℕ) → Applies place → fault.place ≤ place)

  -- parts before
  tells_before : (refusal : SheetRefusal) (Applies Rest : ℕ → Type 0) (parts : List (PartState T)) (read : PartsRead T) → ((place : ℕ) → Applies place → Rest place) → ((place : ℕ) → Rest place → Applies place)
      → Tells refusal Rest read → Tells refusal Applies (before parts read)
  tells_before refusal Applies Rest parts (Ok more) there back tells = λ place applies. tells place (there place applies)
  tells_before refusal Applies Rest parts (Err fault) there back tells = (tells.0, back fault.place tells.1, λ place applies. tells.2 place (there place applies))

  module _ (kind : Ghosts T) (section : SectionKind) (room place octet : ℕ) (octets : List ℕ) (Applies : ℕ → Type 0) where
    -- the records that are read, by what the first means
    abbrev pub reads_by : Option (Meaning T) → PartsRead T
    reads_by first = and_then (record_with kind section place (octet ∷ octets) first) (λ (part, rest). before (part ∷ []) (records_read kind section room (place + length part.octets) rest))

    -- the first is read, and the condition applies where it does to the others
    tells_next : (Rest : ℕ → Type 0) (meaning : Meaning T) → first_meaning kind section (octet ∷ octets) ≡ Some meaning
        → ((place : ℕ) → Applies place → Rest place) → ((place : ℕ) → Rest place → Applies place)
        → Tells (refusal_of section) Rest (records_read kind section room (place + length (take (record_size kind meaning) (octet ∷ octets))) (drop (record_size kind meaning) (octet ∷ octets)))
        → Tells (refusal_of section) Applies (records_read kind section (suc room) place (octet ∷ octets))
    tells_next Rest meaning is there back tells =
        subst (λ first. Tells (refusal_of section) Applies (reads_by first)) (sym is)
        (tells_before (refusal_of section) Applies Rest (record { place = place; octets = take (record_size kind meaning) (octet ∷ octets); meaning = meaning } ∷ []) (records_read kind section room (place + length (take (record_size kind meaning) (octet ∷ octets))) (drop (record_size kind meaning) (octet ∷ octets))) there back tells)

    -- or it is refused
    tells_here : first_meaning kind section (octet ∷ octets) ≡ None → Applies place → ((other : ℕ) → Applies other → place ≤ other)
        → Tells (refusal_of section) Applies (records_read kind section (suc room) place (octet ∷ octets))
    tells_here is applies least = subst (λ first. Tells (refusal_of section) Applies (reads_by first)) (sym is) (refl, applies, least)

  -- no load behind a load
  load_there : (kind : Ghosts T) (start : ℕ) (book : List ℕ) (load : T) → kind.reads (take kind.SIZE book) ≡ Ok load → length (take kind.SIZE book) ≡ kind.SIZE
      → (place : ℕ) → HasNoLoad kind start book place → HasNoLoad kind (start + length (take kind.SIZE book)) (drop kind.SIZE book) place
  load_there kind start book load reads size place (zero, at, less, refused) =
      let none : kind.SIZE * 0 ≡ 0 = omega arith in
      let here : IsErr (kind.reads (take kind.SIZE book)) = subst (λ before. IsErr (kind.reads (take kind.SIZE (drop before book)))) none refused in
      absurd (search (rules, subst IsErr reads here))
  load_there kind start book load reads size place (suc others, at, less, refused) =
      let more : kind.SIZE * suc others ≡ kind.SIZE + kind.SIZE * others = omega (arith, mul-suc kind.SIZE others) in
      let behind = ap (λ before. drop before book) more ∙ drop_on kind.SIZE (kind.SIZE * others) book size in
      (others, omega (arith, at, more, size), omega (arith, less, more, length-drop kind.SIZE book), subst (λ rest. IsErr (kind.reads (take kind.SIZE rest))) behind refused)

  load_back : (kind : Ghosts T) (start : ℕ) (book : List ℕ) → length (take kind.SIZE book) ≡ kind.SIZE
      → (place : ℕ) → HasNoLoad kind (start + length (take kind.SIZE book)) (drop kind.SIZE book) place → HasNoLoad kind start book place
  load_back kind start book size place (others, at, less, refused) =
      let more : kind.SIZE * suc others ≡ kind.SIZE + kind.SIZE * others = omega (arith, mul-suc kind.SIZE others) in
      let behind = ap (λ before. drop before book) more ∙ drop_on kind.SIZE (kind.SIZE * others) book size in
      (suc others, omega (arith, at, more, size), omega (arith, less, more, length-drop kind.SIZE book), subst (λ rest. IsErr (kind.reads (take kind.SIZE rest))) (sym behind) refused)

  -- a book
  pub book_tells : (kind : Ghosts T) → IsSized kind → 0 < kind.SIZE → (room start : ℕ) (book : List ℕ) → length book ≤ room → Tells NoLoad (HasNoLoad kind start book) (records_read kind section.Book room start book)
  book_tells kind sized some room start [] fits = λ place (others, at, less, refused). omega arith
  book_tells kind sized some zero start (octet ∷ octets) fits = absurd (omega arith)
  book_tells kind sized some (suc room) start (octet ∷ octets) fits =
      let all = octet ∷ octets in
      by_result (kind.reads (take kind.SIZE all))
      (λ load reads.
      let size = sized (take kind.SIZE all) load reads in
      tells_next kind section.Book room start octet octets (HasNoLoad kind start all) (HasNoLoad kind (start + length (take kind.SIZE all)) (drop kind.SIZE all)) (a_load load) (ap (λ read. option_map a_load (result_ok read)) reads)
      (load_there kind start all load reads size) (load_back kind start all size)
      (book_tells kind sized some room (start + length (take kind.SIZE all)) (drop kind.SIZE all) (omega (arith, length-drop kind.SIZE all))))
      (λ fault reads.
      let none : kind.SIZE * 0 ≡ 0 = omega arith in
      let refused : IsErr (kind.reads (take kind.SIZE all)) = subst IsErr (sym reads) refl in
      tells_here kind section.Book room start octet octets (HasNoLoad kind start all) (ap (λ read. option_map a_load (result_ok read)) reads)
      (0, omega arith, omega arith, subst (λ before. IsErr (kind.reads (take kind.SIZE (drop before all)))) (sym none) refused)
      (λ place (others, at, less, refused). omega arith))

  pub marks_tell : (kind : Ghosts T) (way : Way) (room start : ℕ) (marks : List ℕ) → Tells BadMark (HasBadMark room start marks) (records_read kind (section.Marks way) room start marks)
  marks_tell kind way room start [] = λ place (others, at, less, bad). omega arith
  marks_tell kind way zero start (octet ∷ octets) = (refl, (0, omega arith, omega arith, inr refl), λ place (others, at, less, bad). omega arith)
  marks_tell kind way (suc room) start (octet ∷ octets) =
      let Applies = HasBadMark (suc room) start (octet ∷ octets) in
      by_option (first_mark (octet ∷ octets))
      (λ mark is.
      let small : octet ≤ 2 = search (rules, tests, is) in
      tells_next kind (section.Marks way) room start octet octets Applies (HasBadMark room (start + 1) octets) (a_mark way mark) (ap (option_map (a_mark way)) is)
      (mark_there room start octet octets small) (mark_back room start octet octets) (marks_tell kind way room (start + 1) octets))
      (λ is.
      let above : 2 < octet = search (rules, tests, is) in
      tells_here kind (section.Marks way) room start octet octets Applies (ap (option_map (a_mark way)) is)
      (0, omega arith, omega arith, inl above) (λ place (others, at, less, bad). omega arith))

  -- calls
  pub calls_tell : (kind : Ghosts T) (room start : ℕ) (calls : List ℕ) → AreOctets calls → Tells BadCall (HasBadCall room start calls) (records_read kind section.Calls room start calls)
  calls_tell kind room start [] below = λ place (others, rest, whole, at, some, bad). omega (arith, ap length whole, length-append (flat_map call_spelled others) rest)
  calls_tell kind zero start (octet ∷ octets) below = (refl, ([], octet ∷ octets, refl, omega arith, omega arith, inr refl), λ place (others, rest, whole, at, some, bad). omega arith)
  calls_tell kind (suc room) start (octet ∷ octets) below =
      let all = octet ∷ octets in
      let Applies = HasBadCall (suc room) start all in
      by_option (first_call all)
      (λ call is.
      let size = record_size kind (a_call call) in
      let sized = call_size kind call in
      let (same, spelled) = call_first octet octets call below is in
      let here : take size all ≡ call_spelled call = rw sized spelled in
      tells_next kind section.Calls room start octet octets Applies (HasBadCall room (start + length (take size all)) (drop size all)) (a_call call) (ap (option_map a_call) is)
      (call_there octet octets call size sized same here room start) (call_back octet octets call size sized same here room start)
      (calls_tell kind room (start + length (take size all)) (drop size all) (All-drop (λ octet. octet < 256) size all below)))
      (λ is. tells_here kind section.Calls room start octet octets Applies (ap (option_map a_call) is)
      ([], all, refl, omega arith, omega arith, inl (no_call octet octets is)) (λ place (others, rest, whole, at, some, bad). omega arith))
