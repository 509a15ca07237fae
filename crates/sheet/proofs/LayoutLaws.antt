-- The sections of a layout that was read, and the parts that were read of them.
use Rattle.std.proofs.Common.{◌≡◌, ℕ, ◌+◌, ◌-◌, ◌<◌, ◌≤◌, ◌||◌, nat_lt, List, [], ◌∷◌, ◌++◌, length, Ok, Some, None, Option, take, drop, slice_index, slice_range, subst, refl, ap, sym, ◌∙◌, rules, tests, arith, length-take-le}
use Rattle.std.specs.List.{All}
use Rattle.std.proofs.lemmas.List.{take-append-drop, append-nil, append_assoc, length-drop}
use Rattle.std.proofs.lemmas.List.Elements.{All-append, All-drop, All-take, All-weaker}
use Rattle.std.proofs.lemmas.List.Folds.{drop_split}
use Rattle.loads.specs.declared.kinds.Load.{Ghosts}
use Rattle.loads.specs.Octets.{number_octets}
use Rattle.channels.specs.Marks.{most_marks}
use Rattle.link.specs.Timers.{most_repeats}
use Rattle.sheet.specs.declared.layouts.LoadKind.{LoadKind}
use Rattle.sheet.specs.declared.parts.Way.TheVariants.{ToHut, Back}
use Rattle.sheet.specs.declared.sections.SectionKind.{SectionKind}
use Rattle.sheet.specs.declared.sections.SectionKind.TheVariants as section
use Rattle.sheet.specs.Layouts.{LayoutState, trailer_size, most_octets, trailer_place, trailer_of, lists_of, distance, kind_at, repeats_at, load_kind, start_of, book_octets, to_hut_octets, back_octets, calls_octets, sections_of, layout_of, settings_read, layout_reads, octets_of}
use Rattle.sheet.specs.Parts.{PartState}
use Rattle.sheet.specs.Sections.{SectionState, section_of, most_calls, section_reads, sections_read}
use Rattle.sheet.specs.Sheets.{SheetParts, sheet_read}
use Rattle.sheet.specs.Spellings.{IsSpelled, Spells, list_of, octets_in, size_in, trailer_spelled}
use Rattle.sheet.proofs.ListLaws.{lists_are, trailer_back}
use Rattle.sheet.proofs.OctetLaws.{AreOctets}
use Rattle.sheet.proofs.RecordLaws.{IsSized, by_test, list_number}
use Rattle.sheet.proofs.SectionLaws.{AreLaid, IsOf, then_ok, before_ok, section_has, sections_have}

-- distances that fit
pub record AreOrdered (place : ℕ) (trailer : List ℕ) : Type 0 where
  pub book : distance 0 trailer ≡ place
  pub to_hut : distance 1 trailer ≤ place
  pub back : distance 2 trailer ≤ distance 1 trailer
  pub calls : distance 3 trailer ≤ distance 2 trailer

-- a layout that was read of octets
pub record IsRead (octets : List ℕ) (layout : LayoutState) : Type 0 where
  pub enough : trailer_size ≤ length octets
  pub few : length octets ≤ most_octets
  pub kind : load_kind (slice_index (trailer_of octets) kind_at) ≡ Some layout.kind
  pub repeats : layout.repeats ≡ slice_index (trailer_of octets) repeats_at
  pub repeats_few : slice_index (trailer_of octets) repeats_at ≤ most_repeats
  pub sections : layout.sections ≡ sections_of (lists_of octets) (trailer_of octets)
  pub ordered : AreOrdered (length (lists_of octets)) (trailer_of octets)

-- settings that were read, by the kind that a trailer names
settings_said : (named : Option LoadKind) (lists trailer : List ℕ) (layout : LayoutState) → settings_read named lists trailer ≡ Ok layout
    → (named ≡ Some layout.kind) × (layout.repeats ≡ slice_index trailer repeats_at)
settings_said (Some kind) lists trailer layout is =
    let said : layout_of kind lists trailer ≡ layout = search (rules, tests) in
    (ap (λ (layout : LayoutState). Some layout.kind) said, ap (λ (layout : LayoutState). layout.repeats) (sym said))
settings_said None lists trailer layout is = absurd (search rules)

pub layout_read : (octets : List ℕ) (layout : LayoutState) → layout_reads octets ≡ Ok layout → IsRead octets layout
layout_read octets layout is =
    let (kind, repeats) = by_test (nat_lt (length octets) trailer_size || nat_lt most_octets (length octets)) _ _ (Ok layout) is
    (λ wrong said. absurd (search (rules, said)))
    (λ right said. settings_said (load_kind (slice_index (trailer_of octets) kind_at)) (lists_of octets) (trailer_of octets) layout said) in
    record {
      enough = search (rules, tests);
      few = search (rules, tests);
      kind = kind;
      repeats = repeats;
      repeats_few = search (rules, tests);
      sections = search (rules, tests);
      ordered = record { book = search (rules, tests); to_hut = search (rules, tests); back = search (rules, tests); calls = search (rules, tests) };
    }

-- lists that are cut at three places, each behind the one before
cut_whole : (a b c : ℕ) (lists : List ℕ) → a ≤ b → b ≤ c → take a lists ++ (slice_range lists a b ++ (slice_range lists b c ++ (drop c lists ++ []))) ≡ lists
cut_whole a b c lists first second =
    rw (append-nil (drop c lists), ← drop_split lists b c second, ← drop_split lists a b first) (take-append-drop a lists)

-- a range ends where it is to
ends_at : (from to : ℕ) (octets : List ℕ) → from ≤ to → to ≤ length octets → from + length (slice_range octets from to) ≡ to
ends_at from to octets ordered within =
    let room : to - from ≤ length (drop from octets) = grind (arith, length-drop) in
    rw (length-take-le (to - from) (drop from octets) room) (omega (arith, ordered))

-- the sections of a layout are the octets before the trailer, each where the one before it ends
sections_laid : (lists trailer : List ℕ) → AreOrdered (length lists) trailer → (octets_of (sections_of lists trailer) ≡ lists) × AreLaid 0 (sections_of lists trailer)
sections_laid lists trailer ordered =
    let a = start_of 1 lists trailer in
    let b = start_of 2 lists trailer in
    let c = start_of 3 lists trailer in
    let a_le_b : a ≤ b = omega (arith, ordered.to_hut, ordered.back) in
    let b_le_c : b ≤ c = omega (arith, ordered.back, ordered.calls) in
    let a_within : a ≤ length lists = omega arith in
    let b_within : b ≤ length lists = omega arith in
    let a_ends : 0 + length (take a lists) ≡ a = rw length-take-le (omega arith) in
    let b_ends = ends_at a b lists a_le_b b_within in
    let c_ends = ends_at b c lists b_le_c (omega arith) in
    (cut_whole a b c lists a_le_b b_le_c, (refl, (sym a_ends, (rw a_ends (sym b_ends), (rw (a_ends, b_ends) (sym c_ends), tt)))))

-- the four lists, each as a section
abbrev pub book_of : List ℕ → List ℕ → SectionState
book_of lists trailer = section_of section.Book 0 (book_octets lists trailer)

abbrev pub to_hut_of : List ℕ → List ℕ → SectionState
to_hut_of lists trailer = section_of (section.Marks ToHut) (start_of 1 lists trailer) (to_hut_octets lists trailer)

abbrev pub back_of : List ℕ → List ℕ → SectionState
back_of lists trailer = section_of (section.Marks Back) (start_of 2 lists trailer) (back_octets lists trailer)

abbrev pub calls_of : List ℕ → List ℕ → SectionState
calls_of lists trailer = section_of section.Calls (start_of 3 lists trailer) (calls_octets lists trailer)

-- the lists of a layout are as long as its distances say
pub record AreSized (lists trailer : List ℕ) : Type 0 where
  pub book : length (book_octets lists trailer) + distance 1 trailer ≡ length lists
  pub to_hut : length (to_hut_octets lists trailer) + distance 2 trailer ≡ distance 1 trailer
  pub back : length (back_octets lists trailer) + distance 3 trailer ≡ distance 2 trailer
  pub calls : length (calls_octets lists trailer) ≡ distance 3 trailer

pub lists_sized : (lists trailer : List ℕ) → AreOrdered (length lists) trailer → AreSized lists trailer
lists_sized lists trailer ordered =
    let a = start_of 1 lists trailer in
    let b = start_of 2 lists trailer in
    let c = start_of 3 lists trailer in
    let b_ends = ends_at a b lists (omega (arith, ordered.to_hut, ordered.back)) (omega arith) in
    let c_ends = ends_at b c lists (omega (arith, ordered.back, ordered.calls)) (omega arith) in
    record {
      book = omega (arith, ordered.to_hut, length-take-le a lists (omega arith));
      to_hut = omega (arith, ordered.to_hut, ordered.back, b_ends);
      back = omega (arith, ordered.to_hut, ordered.back, ordered.calls, c_ends);
      calls = omega (arith, ordered.to_hut, ordered.back, ordered.calls, length-drop c lists);
    }

module _ {T : Type 0} where
  -- the parts that were read of four sections
  pub record FourRead (kind : Ghosts T) (first second third fourth : SectionState) (parts : List (PartState T)) : Type 0 where
    pub book : List (PartState T)
    pub to_hut : List (PartState T)
    pub back : List (PartState T)
    pub calls : List (PartState T)
    pub book_reads : section_reads kind first ≡ Ok book
    pub to_hut_reads : section_reads kind second ≡ Ok to_hut
    pub back_reads : section_reads kind third ≡ Ok back
    pub calls_reads : section_reads kind fourth ≡ Ok calls
    pub all : book ++ to_hut ++ back ++ calls ≡ parts

  pub four_read : (kind : Ghosts T) (first second third fourth : SectionState) (parts : List (PartState T)) → sections_read kind (first ∷ second ∷ third ∷ fourth ∷ []) ≡ Ok parts → FourRead kind first second third fourth parts
  four_read kind first second third fourth parts is =
      let (book, book_reads, next) = then_ok (section_reads kind first) _ parts is in
      let (more, others, whole) = before_ok book _ parts next in
      let (to_hut, to_hut_reads, next_2) = then_ok (section_reads kind second) _ more others in
      let (more_2, others_2, whole_2) = before_ok to_hut _ more next_2 in
      let (back, back_reads, next_3) = then_ok (section_reads kind third) _ more_2 others_2 in
      let (more_3, others_3, whole_3) = before_ok back _ more_2 next_3 in
      let (calls, calls_reads, next_4) = then_ok (section_reads kind fourth) _ more_3 others_3 in
      let (more_4, others_4, whole_4) = before_ok calls (Ok []) more_3 next_4 in
      let none : more_4 ≡ [] = search (rules, others_4) in
      let last : calls ≡ more_3 = sym (append-nil calls) ∙ ap (λ more. calls ++ more) (sym none) ∙ whole_4 in
      record {
        book = book;
        to_hut = to_hut;
        back = back;
        calls = calls;
        book_reads = book_reads;
        to_hut_reads = to_hut_reads;
        back_reads = back_reads;
        calls_reads = calls_reads;
        all = simp append_assoc (rw (last, whole_3, whole_2) whole);
      }

  -- a sheet is spelled by its parts and its settings
  pub sheet_spelled : (kind : Ghosts T) → IsSized kind → (octets : List ℕ) → AreOctets octets → (layout : LayoutState) (sheet : SheetParts T) → layout_reads octets ≡ Ok layout
      → slice_index (trailer_of octets) kind_at ≡ kind.KIND → sheet_read kind layout ≡ Ok sheet → IsSpelled kind sheet octets
  sheet_spelled kind sized octets below layout sheet laid named is =
      let lists = lists_of octets in
      let trailer = trailer_of octets in
      let out = layout_read octets layout laid in
      let (whole, placed) = sections_laid lists trailer out.ordered in
      let (parts, read, made) = then_ok (sections_read kind layout.sections) _ sheet is in
      let have = sections_have kind layout.sections parts read in
      let four = four_read kind (book_of lists trailer) (to_hut_of lists trailer) (back_of lists trailer) (calls_of lists trailer) parts (subst (λ sections. sections_read kind sections ≡ Ok parts) out.sections read) in
      let a = start_of 1 lists trailer in
      let b = start_of 2 lists trailer in
      let c = start_of 3 lists trailer in
      let book = section_has kind section.Book (length (book_octets lists trailer)) 0 (book_octets lists trailer) four.book four.book_reads in
      let to_hut = section_has kind (section.Marks ToHut) most_marks a (to_hut_octets lists trailer) four.to_hut four.to_hut_reads in
      let back = section_has kind (section.Marks Back) most_marks b (back_octets lists trailer) four.back four.back_reads in
      let calls = section_has kind section.Calls most_calls c (calls_octets lists trailer) four.calls four.calls_reads in
      let small = λ (octet : ℕ). octet < 256 in
      let lists_below : AreOctets lists = All-take small (trailer_place octets) octets below in
      let book_are = book.spelled sized (All-take small a lists lists_below) in
      let to_hut_are = to_hut.spelled sized (All-take small (b - a) (drop a lists) (All-drop small a lists lists_below)) in
      let back_are = back.spelled sized (All-take small (c - b) (drop b lists) (All-drop small b lists lists_below)) in
      let calls_are = calls.spelled sized (All-drop small c lists lists_below) in
      let listed = λ (list : SectionKind) (parts : List (PartState T)) (are : All (IsOf kind list) parts). All-weaker (IsOf kind list) (λ part. list_of part.meaning ≡ list_number list) (λ part of. of.1) parts are in
      let spells = λ (list : SectionKind) (parts : List (PartState T)) (are : All (IsOf kind list) parts). All-weaker (IsOf kind list) (λ part. Spells kind part.octets part.meaning) (λ part of. of.0) parts are in
      let placed_in = lists_are four.book four.to_hut four.back four.calls parts four.all (listed section.Book four.book book_are) (listed (section.Marks ToHut) four.to_hut to_hut_are) (listed (section.Marks Back) four.back back_are) (listed section.Calls four.calls calls_are) in
      let size = λ (octets : List ℕ) (in_list list : List (PartState T)) (same : in_list ≡ list) (covers : octets_in list ≡ octets). ap (λ parts. length (octets_in parts)) same ∙ ap length covers in
      let book_size = size _ _ _ placed_in.in_book book.covers in
      let to_hut_size = size _ _ _ placed_in.in_to_hut to_hut.covers in
      let back_size = size _ _ _ placed_in.in_back back.covers in
      let calls_size = size _ _ _ placed_in.in_calls calls.covers in
      let sizes = lists_sized lists trailer out.ordered in
      let d3 : size_in 3 parts ≡ distance 3 trailer = omega (arith, calls_size, sizes.calls) in
      let d2 : size_in 2 parts + size_in 3 parts ≡ distance 2 trailer = omega (arith, back_size, sizes.back, d3) in
      let d1 : size_in 1 parts + size_in 2 parts + size_in 3 parts ≡ distance 1 trailer = omega (arith, to_hut_size, sizes.to_hut, d2) in
      let d0 : size_in 0 parts + size_in 1 parts + size_in 2 parts + size_in 3 parts ≡ distance 0 trailer = omega (arith, book_size, sizes.book, out.ordered.book, d1) in
      let P = λ (part : PartState T). Spells kind part.octets part.meaning in
      let all_spelled = All-append P (four.book ++ four.to_hut ++ four.back) four.calls (All-append P (four.book ++ four.to_hut) four.back (All-append P four.book four.to_hut (spells section.Book four.book book_are) (spells (section.Marks ToHut) four.to_hut to_hut_are)) (spells (section.Marks Back) four.back back_are)) (spells section.Calls four.calls calls_are) in
      let spelled : trailer_spelled kind layout.repeats parts ≡ trailer =
      (λ i. number_octets 4 (d0 i) ++ number_octets 4 (d1 i) ++ number_octets 4 (d2 i) ++ number_octets 4 (d3 i) ++ sym named i ∷ out.repeats i ∷ []) ∙ trailer_back trailer (omega (arith, out.enough, length-drop (trailer_place octets) octets)) (All-drop small (trailer_place octets) octets below) in
      subst (λ sheet. IsSpelled kind sheet octets) (search (rules, made)) (record {
        whole = ap (λ trailer. octets_in parts ++ trailer) spelled ∙ ap (λ lists. lists ++ trailer) (have.covers ∙ ap octets_of out.sections ∙ whole) ∙ take-append-drop (trailer_place octets) octets;
        in_places = have.placed 0 (rw out.sections placed);
        in_order = (λ i. placed_in.in_book i ++ placed_in.in_to_hut i ++ placed_in.in_back i ++ placed_in.in_calls i) ∙ placed_in.all;
        spelled = subst (λ parts. All P parts) four.all all_spelled;
        gives = refl;
      })
