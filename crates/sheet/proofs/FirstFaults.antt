-- The first fault of a sheet that is turned down, and that one that is read has none.
use Rattle.std.proofs.Common.{◌≡◌, ◌≢◌, ◌⊎◌, inl, inr, Bool, ℕ, zero, suc, ◌+◌, ◌<◌, ◌≤◌, ◌==◌, ◌&&◌, ◌||◌, true, false, if◌then◌else◌, nat_le, nat_lt, List, [], ◌∷◌, length, slice_index, Ok, Err, Result, MatchResult, Some, None, subst, refl, ap, sym, ◌∙◌, rules, tests, arith}
use Rattle.std.specs.Result.{IsOk}
use Rattle.std.proofs.Math.Nat.{eq-or-lt_of_le}
use Rattle.std.proofs.lemmas.Bool.Decides.{leb_tells, eqb_tells}
use Rattle.std.proofs.lemmas.List.Elements.{All-drop, All-take}
use Rattle.loads.specs.declared.kinds.Load.{Ghosts}
use Rattle.channels.specs.Marks.{most_marks}
use Rattle.link.specs.Timers.{most_repeats}
use Rattle.sheet.specs.declared.faults.ReadError.{ReadError}
use Rattle.sheet.specs.declared.faults.ReadError.TheVariants.{Refused, NoMemory}
use Rattle.sheet.specs.declared.faults.SheetFault.{SheetFault}
use Rattle.sheet.specs.declared.faults.SheetRefusal.{SheetRefusal}
use Rattle.sheet.specs.declared.faults.SheetRefusal.TheVariants.{WrongSize, BadSetting, BadDistances, NoLoad, BadMark, BadCall}
use Rattle.sheet.specs.declared.layouts.LoadKind.{LoadKind}
use Rattle.sheet.specs.declared.parts.Way.TheVariants.{ToHut, Back}
use Rattle.sheet.specs.declared.layouts.LoadKind.TheVariants.{Reading, Piece}
use Rattle.sheet.specs.Conditions.{octet_of, HasNoLoad, HasBadMark, HasBadCall, IsFaultOf, IsNotAfter, HasNoFault, IsFirstFault, IsReason}
use Rattle.sheet.specs.Faults.{number_of, fault_at, and_then, Fails}
use Rattle.sheet.specs.Layouts.{LayoutState, trailer_size, most_octets, trailer_place, lists_of, trailer_of, distance, start_of, kind_at, repeats_at, load_kind, distances_fit, book_octets, sections_of, settings_read, layout_reads, layout_of}
use Rattle.sheet.specs.Parts.{PartState}
use Rattle.sheet.specs.Sections.{PartsRead, before, section_reads, sections_read, most_calls}
use Rattle.sheet.specs.Sheets.{sheet_of, sheet_read}
use Rattle.sheet.proofs.Findings.{Tells, by_option, book_tells, marks_tell, calls_tell}
use Rattle.sheet.proofs.LayoutLaws.{AreOrdered, layout_read, lists_sized, book_of, to_hut_of, back_of, calls_of}
use Rattle.sheet.proofs.OctetLaws.{AreOctets}
use Rattle.sheet.proofs.RecordLaws.{IsSized, by_test}

-- a refusal by its number
lowest : (refusal : SheetRefusal) → 17 ≤ number_of refusal
lowest WrongSize = omega arith
lowest refusal = omega arith

highest : (refusal : SheetRefusal) → number_of refusal < 23
highest WrongSize = omega arith
highest refusal = omega arith

same_number : (one other : SheetRefusal) → number_of one ≡ number_of other → one ≡ other
same_number WrongSize WrongSize is = refl
same_number BadSetting BadSetting is = refl
same_number BadDistances BadDistances is = refl
same_number NoLoad NoLoad is = refl
same_number BadMark BadMark is = refl
same_number BadCall BadCall is = refl
same_number one other is = absurd (omega arith)

-- the octet kind
pub kind_octet : (octet : ℕ) (kind : LoadKind) → load_kind octet ≡ Some kind → octet ≡ octet_of kind
kind_octet octet Reading is = search (rules, tests)
kind_octet octet kind is = search (rules, tests)

kind_unknown : (octet : ℕ) → load_kind octet ≡ None → (kind : LoadKind) → octet ≢ octet_of kind
kind_unknown octet none Reading same = search (rules, subst (λ octet. load_kind octet ≡ None) same none)
kind_unknown octet none kind same = search (rules, subst (λ octet. load_kind octet ≡ None) same none)

pub same_kind : (one other : LoadKind) → octet_of one ≡ octet_of other → one ≡ other
same_kind Reading Reading is = refl
same_kind Piece Piece is = refl
same_kind one other is = absurd (omega arith)

either : (one other : Bool) → (one || other) ≡ true → (one ≡ true) ⊎ (other ≡ true)
either true other is = inl refl
either false other is = inr is

wrong_size : (size : ℕ) → (nat_lt size trailer_size || nat_lt most_octets size) ≡ true → (size < trailer_size) ⊎ (most_octets < size)
wrong_size size is = elim (either (nat_lt size trailer_size) (nat_lt most_octets size) is) [
  | inl few ↦ inl (search (rules, tests, few))
  | inr many ↦ inr (search (rules, tests, many))
]

-- distances that do not fit
abbrev AreUnfit : ℕ → List ℕ → Type 0
AreUnfit place trailer = (distance 0 trailer ≢ place) ⊎ ((list : ℕ) × (list < 3) × (distance list trailer < distance (list + 1) trailer))

-- the test of a number, with what it tells
abbrev Told : ℕ → ℕ → Type 0
Told a b = ((nat_le a b ≡ true) × (a ≤ b)) ⊎ ((nat_le a b ≡ false) × (b < a))

unfit_by : (place : ℕ) (trailer : List ℕ) → distances_fit place trailer ≡ false
    → (((distance 0 trailer == place) ≡ true) × (distance 0 trailer ≡ place)) ⊎ (((distance 0 trailer == place) ≡ false) × (distance 0 trailer ≢ place))
    → Told (distance 1 trailer) (distance 0 trailer) → Told (distance 2 trailer) (distance 1 trailer) → Told (distance 3 trailer) (distance 2 trailer) → AreUnfit place trailer
unfit_by place trailer fails (inr (not, apart)) to_hut back calls = inl apart
unfit_by place trailer fails book (inr (not, above)) back calls = inr (0, omega arith, above)
unfit_by place trailer fails book to_hut (inr (not, above)) calls = inr (1, omega arith, above)
unfit_by place trailer fails book to_hut back (inr (not, above)) = inr (2, omega arith, above)
unfit_by place trailer fails (inl (a, same)) (inl (b, first)) (inl (c, second)) (inl (d, third)) =
    let fit : distances_fit place trailer ≡ true = (λ i. a i && b i && c i && d i) in
    absurd (search (rules, sym fit ∙ fails))

unfit : (place : ℕ) (trailer : List ℕ) → distances_fit place trailer ≡ false → AreUnfit place trailer
unfit place trailer fails = unfit_by place trailer fails (eqb_tells _ _) (leb_tells _ _) (leb_tells _ _) (leb_tells _ _)

fit : (place : ℕ) (trailer : List ℕ) → AreOrdered place trailer → AreUnfit place trailer → ⊥
fit place trailer ordered (inl apart) = apart ordered.book
fit place trailer ordered (inr (zero, less, above)) = omega (arith, above, ordered.book, ordered.to_hut)
fit place trailer ordered (inr (suc zero, less, above)) = omega (arith, above, ordered.back)
fit place trailer ordered (inr (suc (suc zero), less, above)) = omega (arith, above, ordered.calls)
fit place trailer ordered (inr (suc (suc (suc list)), less, above)) = omega arith

module _ (octets : List ℕ) where
  -- a refusal that applies nowhere
  abbrev NoneOf : SheetRefusal → Type 0
  NoneOf refusal = (place : ℕ) → IsFaultOf octets (fault_at refusal place) → ⊥

  -- none with a number below another
  abbrev pub NoneBelow : ℕ → Type 0
  NoneBelow n = (refusal : SheetRefusal) → number_of refusal < n → NoneOf refusal

  none_17 : NoneBelow 17
  none_17 refusal less = absurd (omega (arith, lowest refusal))

  none_next : (refusal : SheetRefusal) → NoneBelow (number_of refusal) → NoneOf refusal → NoneBelow (number_of refusal + 1)
  none_next refusal below none other less place is = elim (eq-or-lt_of_le (omega arith)) [
    | inl same ↦ none place (subst (λ refusal. IsFaultOf octets (fault_at refusal place)) (same_number other refusal same) is)
    | inr fewer ↦ below other fewer place is
  ]

  none_all : NoneBelow 23 → HasNoFault octets
  none_all none fault is = none fault.refusal (highest fault.refusal) fault.place is

  -- the first fault, by its refusal
  module _ (fault : SheetFault) (refusal : SheetRefusal) (is : fault.refusal ≡ refusal) (least : (place : ℕ) → IsFaultOf octets (fault_at refusal place) → fault.place ≤ place) (none : NoneBelow (number_of refusal)) where
    not_after : (other : SheetFault) → IsFaultOf octets other → Told (number_of other.refusal) (number_of refusal) → IsNotAfter fault other
    not_after other applies (inr (not, above)) = inl (omega (arith, above, ap number_of is))
    not_after other applies (inl (so, within)) = elim (eq-or-lt_of_le within) [
      | inl same ↦ inr (ap number_of is ∙ sym same, least other.place (subst (λ refusal. IsFaultOf octets (fault_at refusal other.place)) (same_number other.refusal refusal same) applies))
      | inr fewer ↦ absurd (none other.refusal fewer other.place applies)
    ]

    first_by : IsFaultOf octets (fault_at refusal fault.place) → IsFirstFault octets fault
    first_by applies = (subst (λ refusal. IsFaultOf octets (fault_at refusal fault.place)) (sym is) applies, λ other applies. not_after other applies (leb_tells _ _))

  module _ (fault : SheetFault) where
    -- by its settings and its distances
    settings_first : NoneBelow 18 → settings_read (load_kind (slice_index (trailer_of octets) kind_at)) (lists_of octets) (trailer_of octets) ≡ Err fault → IsFirstFault octets fault
    settings_first none is =
        let lists = lists_of octets in
        let trailer = trailer_of octets in
        let octet = slice_index trailer kind_at in
        by_option (load_kind octet)
        (λ kind named. by_test (nat_lt most_repeats (slice_index trailer repeats_at)) (Err (fault_at BadSetting (length lists + repeats_at)))
        (if distances_fit (length lists) trailer then Ok (layout_of kind lists trailer) else Err (fault_at BadDistances (length lists))) (Err fault)
        (subst (λ kind. settings_read kind lists trailer ≡ Err fault) named is)
        (λ many said.
        let same : fault_at BadSetting (length lists + repeats_at) ≡ fault = search (rules, said) in
        let above : most_repeats < slice_index trailer repeats_at = search (rules, tests, many) in
        subst (IsFirstFault octets) same (first_by (fault_at BadSetting (length lists + repeats_at)) BadSetting refl (λ place applies. elim applies [
          | inl (at, unknown) ↦ absurd (unknown kind (kind_octet octet kind named))
          | inr (at, more) ↦ omega arith
        ]) none (inr (refl, above))))
        (λ few others.
        let no_setting : NoneOf BadSetting = λ place applies. elim applies [
          | inl (at, unknown) ↦ unknown kind (kind_octet octet kind named)
          | inr (at, more) ↦ search (rules, tests, few, more)
        ] in
        by_test (distances_fit (length lists) trailer) (Ok (layout_of kind lists trailer)) (Err (fault_at BadDistances (length lists))) (Err fault) others
        (λ fits said. search (rules, said))
        (λ fails said.
        let same : fault_at BadDistances (length lists) ≡ fault = search (rules, said) in
        subst (IsFirstFault octets) same (first_by (fault_at BadDistances (length lists)) BadDistances refl (λ place applies. omega (arith, applies.0)) (none_next BadSetting none no_setting) (refl, unfit (length lists) trailer fails)))))
        (λ named.
        let unknown = kind_unknown octet named in
        let said = subst (λ kind. settings_read kind lists trailer ≡ Err fault) named is in
        let same : fault_at BadSetting (length lists + kind_at) ≡ fault = search (rules, said) in
        subst (IsFirstFault octets) same (first_by (fault_at BadSetting (length lists + kind_at)) BadSetting refl (λ place applies. elim applies [
          | inl (at, unknown) ↦ omega arith
          | inr (at, more) ↦ omega arith
        ]) none (inl (refl, unknown))))

    -- by its size and its trailer
    pub layout_first : layout_reads octets ≡ Err fault → IsFirstFault octets fault
    layout_first is = by_test (nat_lt (length octets) trailer_size || nat_lt most_octets (length octets)) (Err (fault_at WrongSize (length octets)))
        (settings_read (load_kind (slice_index (trailer_of octets) kind_at)) (lists_of octets) (trailer_of octets)) (Err fault) is
        (λ wrong said.
        let same : fault_at WrongSize (length octets) ≡ fault = search (rules, said) in
        subst (IsFirstFault octets) same (first_by (fault_at WrongSize (length octets)) WrongSize refl (λ place applies. omega (arith, applies.0)) none_17 (refl, wrong_size (length octets) wrong)))
        (λ right others. settings_first (none_next WrongSize none_17 (λ place applies. elim applies.1 [
          | inl few ↦ search (rules, tests, right, few)
          | inr many ↦ search (rules, tests, right, many)
        ])) others)

  -- a sheet whose layout is read has no fault of its size and its trailer
  none_20 : (layout : LayoutState) → layout_reads octets ≡ Ok layout → NoneBelow 20
  none_20 layout is =
      let out = layout_read octets layout is in
      none_next BadDistances (none_next BadSetting (none_next WrongSize none_17 (λ place applies. elim applies.1 [
        | inl few ↦ omega (arith, out.enough, few)
        | inr many ↦ omega (arith, out.few, many)
      ])) (λ place applies. elim applies [
        | inl (at, unknown) ↦ unknown layout.kind (kind_octet (slice_index (trailer_of octets) kind_at) layout.kind out.kind)
        | inr (at, more) ↦ omega (arith, out.repeats_few, more)
      ])) (λ place applies. fit (length (lists_of octets)) (trailer_of octets) out.ordered applies.1)

  -- what is said of a sheet by what it reads as
  abbrev pub Verdict : {X : Type 0} → Result X SheetFault → Type 0
  Verdict read = MatchResult read (λ sheet. HasNoFault octets) (λ fault. IsFirstFault octets fault)

  -- so of an answer
  pub reason_by : {X : Type 0} (read : Result X SheetFault) → Verdict read → (error : ReadError) → Fails read error → (error ≡ NoMemory → IsOk read) → IsReason octets error
  reason_by read verdict (Refused fault) fails good = subst Verdict fails verdict
  reason_by (Ok sheet) verdict NoMemory fails good = verdict
  reason_by (Err fault) verdict NoMemory fails good = search (rules, good refl)

  module _ {T : Type 0} where
    -- so with parts before
    verdict_before : (parts : List (PartState T)) (read : PartsRead T) → Verdict read → Verdict (before parts read)
    verdict_before parts (Ok more) verdict = verdict
    verdict_before parts (Err fault) verdict = verdict

    -- and by the first of sections
    verdict_by : (read others : PartsRead T) → ((fault : SheetFault) → read ≡ Err fault → IsFirstFault octets fault) → ((parts : List (PartState T)) → read ≡ Ok parts → Verdict others) → Verdict (and_then read (λ parts. before parts others))
    verdict_by (Ok parts) others fails reads = verdict_before parts others (reads parts refl)
    verdict_by (Err fault) others fails reads = fails fault refl

    module _ (layout : LayoutState) (laid : layout_reads octets ≡ Ok layout) (below : AreOctets octets) (kind : Ghosts T) (sized : IsSized kind) (some : 0 < kind.SIZE)
        (there : (place : ℕ) → IsFaultOf octets (fault_at NoLoad place) → HasNoLoad kind 0 (book_octets (lists_of octets) (trailer_of octets)) place)
        (back : (place : ℕ) → HasNoLoad kind 0 (book_octets (lists_of octets) (trailer_of octets)) place → IsFaultOf octets (fault_at NoLoad place)) where
      sections_verdict : Verdict (sections_read kind (sections_of (lists_of octets) (trailer_of octets)))
      sections_verdict =
          let lists = lists_of octets in
          let trailer = trailer_of octets in
          let out = layout_read octets layout laid in
          let sizes = lists_sized lists trailer out.ordered in
          let ordered = out.ordered in
          let small = λ (octet : ℕ). octet < 256 in
          let calls_below = All-drop small (start_of 3 lists trailer) lists (All-take small (trailer_place octets) octets below) in
          let book = book_of lists trailer in
          let to_hut = to_hut_of lists trailer in
          let back_marks = back_of lists trailer in
          let calls = calls_of lists trailer in
          let NoLoadAt = HasNoLoad kind 0 book.octets in
          let HutAt = HasBadMark most_marks to_hut.place to_hut.octets in
          let BackAt = HasBadMark most_marks back_marks.place back_marks.octets in
          let CallAt = HasBadCall most_calls calls.place calls.octets in
          let book_tell = book_tells kind sized some (length book.octets) 0 book.octets (omega arith) in
          let to_hut_tell = marks_tell kind ToHut most_marks to_hut.place to_hut.octets in
          let back_tell = marks_tell kind Back most_marks back_marks.place back_marks.octets in
          let calls_tell = calls_tell kind most_calls calls.place calls.octets calls_below in
          let none = none_20 layout laid in
          verdict_by (section_reads kind book) (sections_read kind (to_hut ∷ back_marks ∷ calls ∷ []))
          (λ fault is.
          let told : Tells {T = T} NoLoad NoLoadAt (Err fault) = subst (Tells NoLoad NoLoadAt) is book_tell in
          first_by fault NoLoad told.0 (λ place applies. told.2 place (there place applies)) none (back fault.place told.1))
          (λ parts is.
          let told : Tells {T = T} NoLoad NoLoadAt (Ok parts) = subst (Tells NoLoad NoLoadAt) is book_tell in
          let none_21 = none_next NoLoad none (λ place applies. told place (there place applies)) in
          verdict_by (section_reads kind to_hut) (sections_read kind (back_marks ∷ calls ∷ []))
          (λ fault is.
          let told : Tells {T = T} BadMark HutAt (Err fault) = subst (Tells BadMark HutAt) is to_hut_tell in
          first_by fault BadMark told.0 (λ place applies. elim applies [
            | inl here ↦ told.2 place here
            | inr after ↦ omega (arith, told.1.1, told.1.2, after.1, sizes.to_hut, ordered.to_hut, ordered.back)
          ]) none_21 (inl told.1))
          (λ parts is.
          let hut_told : Tells {T = T} BadMark HutAt (Ok parts) = subst (Tells BadMark HutAt) is to_hut_tell in
          verdict_by (section_reads kind back_marks) (sections_read kind (calls ∷ []))
          (λ fault is.
          let told : Tells {T = T} BadMark BackAt (Err fault) = subst (Tells BadMark BackAt) is back_tell in
          first_by fault BadMark told.0 (λ place applies. elim applies [
            | inl hut ↦ absurd (hut_told place hut)
            | inr here ↦ told.2 place here
          ]) none_21 (inr told.1))
          (λ parts is.
          let back_told : Tells {T = T} BadMark BackAt (Ok parts) = subst (Tells BadMark BackAt) is back_tell in
          let none_22 = none_next BadMark none_21 (λ place applies. elim applies [
            | inl hut ↦ hut_told place hut
            | inr here ↦ back_told place here
          ]) in
          verdict_by (section_reads kind calls) (Ok [])
          (λ fault is.
          let told : Tells {T = T} BadCall CallAt (Err fault) = subst (Tells BadCall CallAt) is calls_tell in
          first_by fault BadCall told.0 told.2 none_22 told.1)
          (λ parts is.
          let told : Tells {T = T} BadCall CallAt (Ok parts) = subst (Tells BadCall CallAt) is calls_tell in
          none_all (none_next BadCall none_22 told)))))

      verdict_of_sheet : (read : PartsRead T) → Verdict read → Verdict (and_then read (λ parts. Ok (sheet_of layout.repeats parts)))
      verdict_of_sheet (Ok parts) verdict = verdict
      verdict_of_sheet (Err fault) verdict = verdict

      -- a sheet that is read has no fault, and one that is turned down is so for its first
      pub sheet_verdict : Verdict (sheet_read kind layout)
      sheet_verdict =
          let out = layout_read octets layout laid in
          verdict_of_sheet (sections_read kind layout.sections) (subst (λ sections. Verdict (sections_read kind sections)) (sym out.sections) sections_verdict)
