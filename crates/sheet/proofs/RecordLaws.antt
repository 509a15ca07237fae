-- What was read at the front of octets is spelled there.
use Rattle.std.proofs.Common.{◌≡◌, ℕ, zero, suc, ◌<◌, ◌≤◌, Bool, true, false, ◌==◌, if◌then◌else◌, nat_le, List, [], ◌∷◌, ◌++◌, length, Ok, Err, Result, Some, None, Option, take, drop, subst, refl, ap, sym, ◌∙◌, rules, tests, arith}
use Rattle.std.specs.List.{find, AllByRecursion}
use Rattle.std.specs.Option.{option_map}
use Rattle.std.specs.Result.{result_ok}
use Rattle.std.proofs.lemmas.List.Elements.{All-drop, All-take}
use Rattle.loads.specs.declared.kinds.Load.{Ghosts}
use Rattle.loads.specs.Octets.{field}
use Rattle.channels.specs.declared.marks.Mark.{Mark}
use Rattle.channels.specs.Marks.{mark_of}
use Rattle.link.specs.declared.calls.Call.{Call}
use Rattle.link.specs.declared.calls.Call.TheVariants.{Request}
use Rattle.link.specs.Words.{letter}
use Rattle.sheet.specs.declared.parts.Way.TheVariants.{ToHut, Back}
use Rattle.sheet.specs.declared.sections.SectionKind.{SectionKind}
use Rattle.sheet.specs.declared.sections.SectionKind.TheVariants as section
use Rattle.sheet.specs.Parts.{Meaning, a_load, a_mark, a_call}
use Rattle.sheet.specs.Records.{first_mark, first_call, first_request, first_meaning, plain_call, plain_calls, record_size, request_letter}
use Rattle.sheet.specs.Spellings.{mark_octet, call_spelled, Spells, list_of}
use Rattle.sheet.proofs.OctetLaws.{AreOctets, octets_back}

-- by a test
pub by_test : {X : Type 0} {R : Type 0} (test : Bool) (x y z : X) → (if test then x else y) ≡ z → (test ≡ true → x ≡ z → R) → (test ≡ false → y ≡ z → R) → R
by_test true x y z is passes fails = passes refl is
by_test false x y z is passes fails = fails refl is

-- what is found passes the test, and has what all have
found : {X : Type 0} (test : X → Bool) (P : X → Type 0) (xs : List X) (x : X) → find test xs ≡ Some x → AllByRecursion P xs → (test x ≡ true) × P x
found test P [] x is all = search rules
found test P (y ∷ ys) x is all = by_test (test y) (Some y) (find test ys) (Some x) is
    (λ passes here. let same : y ≡ x = search (rules, here) in subst (λ x. (test x ≡ true) × P x) same (passes, all.0))
    (λ fails there. found test P ys x there all.1)

-- a call of one octet, which is its letter
abbrev pub IsPlain : Call → Type 0
IsPlain call = call_spelled call ≡ letter call ∷ []

-- so is a call that is found by its letter
plain_found : (octet : ℕ) (call : Call) → plain_call octet ≡ Some call → (letter call ≡ octet) × IsPlain call
plain_found octet call is =
    let (same, plain) = found (λ call. letter call == octet) IsPlain plain_calls call is (search rules) in
    (search (rules, tests, same), plain)

-- how many octets a call has, by its letter
size_by_letter : (call : Call) → length (call_spelled call) ≡ (if letter call == request_letter then 5 else 1)
size_by_letter (Request start count) = refl
size_by_letter call = refl

pub same_size : (one other : Call) → letter one ≡ letter other → length (call_spelled one) ≡ length (call_spelled other)
same_size one other same = size_by_letter one ∙ ap (λ letter. if letter == request_letter then 5 else 1) same ∙ sym (size_by_letter other)

-- the request at the front is spelled there
request_spelled : (octets : List ℕ) (call : Call) → AreOctets octets → take 1 octets ≡ request_letter ∷ [] → first_request octets ≡ Some call → take 5 octets ≡ call_spelled call
request_spelled [] call below begins is = search rules
request_spelled (q ∷ []) call below begins is = search rules
request_spelled (q ∷ a ∷ []) call below begins is = search rules
request_spelled (q ∷ a ∷ b ∷ []) call below begins is = search rules
request_spelled (q ∷ a ∷ b ∷ c ∷ []) call below begins is = search rules
request_spelled (q ∷ a ∷ b ∷ c ∷ d ∷ octets) call below begins is =
    let all = q ∷ a ∷ b ∷ c ∷ d ∷ octets in
    let start = octets_back (a ∷ b ∷ []) (All-take (λ octet. octet < 256) 2 (drop 1 all) (All-drop (λ octet. octet < 256) 1 all below)) in
    let count = octets_back (c ∷ d ∷ []) (All-take (λ octet. octet < 256) 2 (drop 3 all) (All-drop (λ octet. octet < 256) 3 all below)) in
    let same : Request (field 1 2 all) (field 3 2 all) ≡ call = search (rules, tests, is) in
    ap (λ first. first ++ (a ∷ b ∷ c ∷ d ∷ [])) begins ∙ (λ i. request_letter ∷ (sym start i ++ sym count i)) ∙ ap call_spelled same

-- and its letter is the first octet
request_letters : (octets : List ℕ) (call : Call) → first_request octets ≡ Some call → letter call ≡ request_letter
request_letters octets call is = by_test (nat_le 5 (length octets)) (Some (Request (field 1 2 octets) (field 3 2 octets))) None (Some call) is
    (λ passes some. let same : Request (field 1 2 octets) (field 3 2 octets) ≡ call = search (rules, some) in sym (ap letter same))
    (λ fails none. search rules)

-- how many octets a call has
pub call_size : {T : Type 0} (kind : Ghosts T) (call : Call) → record_size kind (a_call call) ≡ length (call_spelled call)
call_size kind (Request start count) = refl
call_size kind call = refl

-- a call at the front: the first octet is its letter, and it is spelled there
pub call_first : (octet : ℕ) (octets : List ℕ) (call : Call) → AreOctets (octet ∷ octets) → first_call (octet ∷ octets) ≡ Some call
    → (letter call ≡ octet) × (take (length (call_spelled call)) (octet ∷ octets) ≡ call_spelled call)
call_first octet octets call below is =
    by_test (octet == request_letter) (first_request (octet ∷ octets)) (plain_call octet) (Some call) is
    (λ passes read.
    let same : octet ≡ request_letter = search (rules, tests, passes) in
    let letters = request_letters (octet ∷ octets) call read in
    let five : length (call_spelled call) ≡ 5 = same_size call (Request 0 0) letters in
    (letters ∙ sym same, rw five (request_spelled (octet ∷ octets) call below (ap (λ octet. octet ∷ []) same) read)))
    (λ fails read.
    let (same, plain) = plain_found octet call read in
    let begins : octet ∷ [] ≡ call_spelled call = ap (λ octet. octet ∷ []) (sym same) ∙ sym plain in
    (same, subst (λ spelled. take (length spelled) (octet ∷ octets) ≡ spelled) begins refl))

-- a mark's octet
mark_back : (octet : ℕ) → octet ≤ 2 → mark_octet (mark_of octet) ≡ octet
mark_back zero small = refl
mark_back (suc zero) small = refl
mark_back (suc (suc zero)) small = refl
mark_back (suc (suc (suc octet))) small = absurd (omega arith)

-- the mark at the front is spelled there
mark_spelled : (octets : List ℕ) (mark : Mark) → first_mark octets ≡ Some mark → take 1 octets ≡ mark_octet mark ∷ []
mark_spelled [] mark is = search rules
mark_spelled (octet ∷ octets) mark is =
    let small : octet ≤ 2 = search (rules, tests, is) in
    let same : mark_of octet ≡ mark = search (rules, tests, is) in
    ap (λ octet. octet ∷ []) (sym (mark_back octet small) ∙ ap mark_octet same)

-- the list of a section
abbrev pub list_number : SectionKind → ℕ
list_number section.Book = 0
list_number (section.Marks ToHut) = 1
list_number (section.Marks Back) = 2
list_number section.Calls = 3

-- what octets are that are read
read_ok : {X E : Type 0} (read : Result X E) (x : X) → result_ok read ≡ Some x → read ≡ Ok x
read_ok (Ok x) y is = search rules
read_ok (Err e) y is = search rules

module _ {T : Type 0} where
  -- a kind that reads no other number of octets
  abbrev pub IsSized : Ghosts T → Type 0
  IsSized kind = (octets : List ℕ) (load : T) → kind.reads octets ≡ Ok load → length octets ≡ kind.SIZE

  -- what a record means comes of what its section has
  pub mapped : {X : Type 0} (means : X → Meaning T) (first : Option X) (meaning : Meaning T) → option_map means first ≡ Some meaning → (x : X) × (first ≡ Some x) × (means x ≡ meaning)
  mapped means (Some x) meaning is = (x, refl, search rules)
  mapped means None meaning is = search rules

  -- the record at the front is spelled there, and is of its list
  pub meaning_spelled : (kind : Ghosts T) → IsSized kind → (section : SectionKind) (octets : List ℕ) (meaning : Meaning T) → AreOctets octets → first_meaning kind section octets ≡ Some meaning
      → Spells kind (take (record_size kind meaning) octets) meaning × (list_of meaning ≡ list_number section)
  meaning_spelled kind sized section.Book octets meaning below is =
      let (load, first, same) = mapped a_load (result_ok (kind.reads (take kind.SIZE octets))) meaning is in
      let reads = read_ok (kind.reads (take kind.SIZE octets)) load first in
      rw (← same) ((sized (take kind.SIZE octets) load reads, reads), refl)
  meaning_spelled kind sized (section.Marks ToHut) octets meaning below is =
      let (mark, first, same) = mapped (a_mark ToHut) (first_mark octets) meaning is in
      rw (← same) (mark_spelled octets mark first, refl)
  meaning_spelled kind sized (section.Marks Back) octets meaning below is =
      let (mark, first, same) = mapped (a_mark Back) (first_mark octets) meaning is in
      rw (← same) (mark_spelled octets mark first, refl)
  meaning_spelled kind sized section.Calls [] meaning below is = search rules
  meaning_spelled kind sized section.Calls (octet ∷ octets) meaning below is =
      let (call, first, same) = mapped a_call (first_call (octet ∷ octets)) meaning is in
      rw (← same) (rw (call_size kind call) (call_first octet octets call below first).1, refl)
