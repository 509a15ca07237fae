-- What parts have that were read of sections.
use Rattle.std.proofs.Common.{◌≡◌, ℕ, zero, suc, ◌+◌, ◌<◌, ◌≤◌, List, [], ◌∷◌, ◌++◌, length, Ok, Err, Result, Some, None, Option, take, drop, subst, refl, ap, ◌∙◌, rules, arith}
use Rattle.std.specs.List.{All}
use Rattle.std.specs.Result.{result_ok}
use Rattle.std.proofs.lemmas.Grind.{flat_map-append}
use Rattle.std.proofs.lemmas.List.{take-append-drop, length-append}
use Rattle.std.proofs.lemmas.List.Elements.{All-nil, All-cons, All-drop}
use Rattle.std.proofs.lemmas.List.Sums.{sum_by-cons}
use Rattle.loads.specs.declared.kinds.Load.{Ghosts}
use Rattle.sheet.specs.declared.parts.Way.{Way}
use Rattle.sheet.specs.declared.parts.Way.TheVariants.{ToHut, Back}
use Rattle.sheet.specs.declared.sections.SectionKind.{SectionKind}
use Rattle.sheet.specs.declared.sections.SectionKind.TheVariants as section
use Rattle.sheet.specs.declared.faults.SheetFault.{SheetFault}
use Rattle.sheet.specs.Faults.{and_then}
use Rattle.sheet.specs.Layouts.{octets_of}
use Rattle.sheet.specs.Parts.{Meaning, a_load, a_mark, a_call, PartState, mark_in, marks_in}
use Rattle.sheet.specs.Records.{first_mark, first_call, first_meaning, record_size, record_with, record_of}
use Rattle.sheet.specs.Sections.{SectionState, PartsRead, room_for, marks_room, before, records_read, section_reads, sections_read}
use Rattle.sheet.specs.Spellings.{octets_in, AreInPlaces, Spells, list_of}
use Rattle.sheet.proofs.OctetLaws.{AreOctets}
use Rattle.sheet.proofs.RecordLaws.{IsSized, list_number, mapped, meaning_spelled}

-- sections that start at a place, each where the one before it ends
abbrev pub AreLaid : ℕ → List SectionState → Type 0
AreLaid place [] = Unit {0}
AreLaid place (section ∷ sections) = (section.place ≡ place) × AreLaid (place + length section.octets) sections

-- an answer that follows another
pub then_ok : {X Y : Type 0} (read : Result X SheetFault) (next : X → Result Y SheetFault) (y : Y) → and_then read next ≡ Ok y → (x : X) × (read ≡ Ok x) × (next x ≡ Ok y)
then_ok (Ok x) next y is = (x, refl, is)
then_ok (Err fault) next y is = search rules

module _ {T : Type 0} where
  -- parts before others that were read
  pub before_ok : (parts : List (PartState T)) (others : PartsRead T) (all : List (PartState T)) → before parts others ≡ Ok all
      → (more : List (PartState T)) × (others ≡ Ok more) × (parts ++ more ≡ all)
  before_ok parts others all is =
      let (more, read, whole) = then_ok others (λ others. Ok (parts ++ others)) all is in
      (more, read, search (rules, whole))

  -- a record is cut off the front of the octets
  record CutOff (kind : Ghosts T) (place : ℕ) (octets behind : List ℕ) (part : PartState T) : Type 0 where
    pub placed : part.place ≡ place
    pub front : part.octets ≡ take (record_size kind part.meaning) octets
    pub rest : behind ≡ drop (record_size kind part.meaning) octets

  record_cut : (kind : Ghosts T) (section : SectionKind) (place : ℕ) (octets behind : List ℕ) (meaning : Option (Meaning T)) (part : PartState T)
      → record_with kind section place octets meaning ≡ Ok (part, behind) → CutOff kind place octets behind part × (meaning ≡ Some part.meaning)
  record_cut kind section place octets behind (Some meaning) part is =
      (record { placed = search rules; front = search rules; rest = search rules }, search rules)
  record_cut kind section place octets behind None part is = search rules

  -- a mark takes room for a mark
  takes_room : (way : Way) (kind : Ghosts T) (section : SectionKind) (left : ℕ) (octets : List ℕ) (meaning : Meaning T) → first_meaning kind section octets ≡ Some meaning
      → length (mark_in way meaning) + room_for way section left ≤ room_for way section (suc left)
  takes_room ToHut kind section.Book left octets meaning is = rw (← (mapped a_load (result_ok (kind.reads (take kind.SIZE octets))) meaning is).2) (omega arith)
  takes_room Back kind section.Book left octets meaning is = rw (← (mapped a_load (result_ok (kind.reads (take kind.SIZE octets))) meaning is).2) (omega arith)
  takes_room ToHut kind (section.Marks ToHut) left octets meaning is = rw (← (mapped (a_mark ToHut) (first_mark octets) meaning is).2) (omega arith)
  takes_room ToHut kind (section.Marks Back) left octets meaning is = rw (← (mapped (a_mark Back) (first_mark octets) meaning is).2) (omega arith)
  takes_room Back kind (section.Marks ToHut) left octets meaning is = rw (← (mapped (a_mark ToHut) (first_mark octets) meaning is).2) (omega arith)
  takes_room Back kind (section.Marks Back) left octets meaning is = rw (← (mapped (a_mark Back) (first_mark octets) meaning is).2) (omega arith)
  takes_room ToHut kind section.Calls left octets meaning is = rw (← (mapped a_call (first_call octets) meaning is).2) (omega arith)
  takes_room Back kind section.Calls left octets meaning is = rw (← (mapped a_call (first_call octets) meaning is).2) (omega arith)

  -- a record of a section, spelled
  abbrev pub IsOf : Ghosts T → SectionKind → PartState T → Type 0
  IsOf kind section part = Spells kind part.octets part.meaning × (list_of part.meaning ≡ list_number section)

  -- the parts of a section: they cover its octets from its place on, are spelled there, and have no more marks than it
  -- has room for
  pub record HasRead (kind : Ghosts T) (section : SectionKind) (room place : ℕ) (octets : List ℕ) (parts : List (PartState T)) : Type 0 where
    pub covers : octets_in parts ≡ octets
    pub placed : AreInPlaces place parts
    pub few : (way : Way) → length (marks_in way parts) ≤ room_for way section room
    pub some : 0 < length parts → 0 < length octets
    pub spelled : IsSized kind → AreOctets octets → All (IsOf kind section) parts

  pub section_has : (kind : Ghosts T) (section : SectionKind) (room place : ℕ) (octets : List ℕ) (parts : List (PartState T))
      → records_read kind section room place octets ≡ Ok parts → HasRead kind section room place octets parts
  section_has kind section room place [] [] is = record { covers = refl; placed = tt; few = λ way. omega arith; some = λ some. some; spelled = λ sized below. All-nil (IsOf kind section) }
  section_has kind section room place [] (part ∷ parts) is = search rules
  section_has kind section zero place (octet ∷ octets) parts is = search rules
  section_has kind section (suc room) place (octet ∷ octets) parts is =
      let all = octet ∷ octets in
      let ((part, rest), front, next) = then_ok (record_of kind section place all) _ parts is in
      let (more, read, whole) = before_ok (part ∷ []) (records_read kind section room (place + length part.octets) rest) parts next in
      let (cut, means) = record_cut kind section place all rest (first_meaning kind section all) part front in
      let others = section_has kind section room (place + length part.octets) rest more read in
      let size = record_size kind part.meaning in
      let below_256 = λ (octet : ℕ). octet < 256 in
      rw (← whole) record {
        covers = ap (λ rest. part.octets ++ rest) others.covers ∙ rw (cut.front, cut.rest) (take-append-drop size all);
        placed = (cut.placed, others.placed);
        few = λ way. omega (arith, takes_room way kind section room all part.meaning means, others.few way, length-append (mark_in way part.meaning) (marks_in way more));
        some = λ some. omega arith;
        spelled = λ sized below.
            let (spells, listed) = meaning_spelled kind sized section all part.meaning below means in
            All-cons (IsOf kind section) part more (rw cut.front spells, listed) (others.spelled sized (rw cut.rest (All-drop below_256 size all below)));
      }

  -- parts in their places before others in theirs
  in_places_append : (place : ℕ) (parts others : List (PartState T)) → AreInPlaces place parts → AreInPlaces (place + length (octets_in parts)) others → AreInPlaces place (parts ++ others)
  in_places_append place [] others here there =
      let same : place + 0 ≡ place = omega arith in
      rw same at there
  in_places_append place (part ∷ parts) others (first, here) there =
      let same : place + length (part.octets ++ octets_in parts) ≡ (place + length part.octets) + length (octets_in parts) = grind (arith, length-append) in
      (first, in_places_append (place + length part.octets) parts others here (rw same at there))

  -- the same of the parts of sections
  pub record HaveRead (sections : List SectionState) (parts : List (PartState T)) : Type 0 where
    pub covers : octets_in parts ≡ octets_of sections
    pub placed : (place : ℕ) → AreLaid place sections → AreInPlaces place parts
    pub few : (way : Way) → length (marks_in way parts) ≤ marks_room way sections
    pub some : 0 < length parts → 0 < length (octets_of sections)

  pub sections_have : (kind : Ghosts T) (sections : List SectionState) (parts : List (PartState T)) → sections_read kind sections ≡ Ok parts → HaveRead sections parts
  sections_have kind [] [] is = record { covers = refl; placed = λ place laid. tt; few = λ way. omega arith; some = λ some. some }
  sections_have kind [] (part ∷ parts) is = search rules
  sections_have kind (section ∷ sections) parts is =
      let (first, here, next) = then_ok (section_reads kind section) _ parts is in
      let (more, there, whole) = before_ok first (sections_read kind sections) parts next in
      let had = section_has kind section.kind section.room section.place section.octets first here in
      let others = sections_have kind sections more there in
      let octets : length (octets_of (section ∷ sections)) ≡ length section.octets + length (octets_of sections) = length-append section.octets (octets_of sections) in
      rw (← whole) record {
        covers = flat_map-append (λ part. part.octets) first more ∙ rw (had.covers, others.covers) refl;
        placed = λ place laid. in_places_append place first more (subst (λ place. AreInPlaces place first) laid.0 had.placed) (rw had.covers (others.placed (place + length section.octets) laid.1));
        few = λ way.
            let room : marks_room way (section ∷ sections) ≡ room_for way section.kind section.room + marks_room way sections = sum_by-cons _ section sections in
            rw flat_map-append (omega (arith, room, had.few way, others.few way, length-append (marks_in way first) (marks_in way more)));
        some = λ some. grind (arith, octets, had.some, others.some, length-append first more);
      }
