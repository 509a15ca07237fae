-- The sections of a sheet, which are its four lists, each read record by record.
use Rattle.std.specs.Prelude.{ℕ, zero, suc, ◌+◌, List, [], ◌∷◌, ◌++◌, length, sum_by, Ok, Err, Result, Some, None, Option}
use Rattle.loads.specs.declared.kinds.Load.{Ghosts}
use Rattle.channels.specs.Marks.{most_marks}
use Rattle.sheet.specs.declared.faults.SheetFault.{SheetFault}
use Rattle.sheet.specs.declared.parts.Part.{Part}
use Rattle.sheet.specs.declared.parts.Way.{Way}
use Rattle.sheet.specs.declared.parts.Way.TheVariants.{ToHut, Back}
use Rattle.sheet.specs.declared.sections.Section.{Section}
use Rattle.sheet.specs.declared.sections.SectionKind.{SectionKind}
use Rattle.sheet.specs.declared.sections.SectionKind.TheVariants as section
use Rattle.sheet.specs.Faults.{fault_at, and_then}
use Rattle.sheet.specs.Parts.{PartState, part_state}
use Rattle.sheet.specs.Records.{refusal_of, record_of}

-- what is left of a section: its kind, how many records it may still have, the place of the next one, and the octets
pub record SectionState : Type 0 where
  pub kind : SectionKind
  pub room : ℕ
  pub place : ℕ
  pub octets : List ℕ

-- a section as plain values
abbrev pub section_state : Section → SectionState
section_state left =
    record { kind = left.kind; room = left.room; place = left.place; octets = left.octets.now }

-- the most calls of a sheet
abbrev pub most_calls : ℕ
most_calls = 1024

-- the most records of a section: each load of a sheet's book has octets, so there are no more loads than octets; marks
-- are as many as a rain takes
abbrev pub room_of : SectionKind → List ℕ → ℕ
room_of section.Book octets = length octets
room_of (section.Marks way) octets = most_marks
room_of section.Calls octets = most_calls

-- a whole section
abbrev pub section_of : SectionKind → ℕ → List ℕ → SectionState
section_of kind place octets =
    record { kind = kind; room = room_of kind octets; place = place; octets = octets }

-- how many marks for frames of one way a section of a kind may have, if it has room for so many records
abbrev pub room_for : Way → SectionKind → ℕ → ℕ
room_for ToHut (section.Marks ToHut) room = room
room_for Back (section.Marks Back) room = room
room_for way kind room = 0

-- how many sections may have
abbrev pub marks_room : Way → List SectionState → ℕ
marks_room way sections = sum_by (λ section. room_for way section.kind section.room) sections

-- parts that were read, or a refusal
abbrev pub PartsRead : Type 0 → Type 0
PartsRead T = Result (List (PartState T)) SheetFault

module _ {T : Type 0} where
  -- parts before others
  abbrev pub before : List (PartState T) → PartsRead T → PartsRead T
  before parts others = and_then others (λ others. Ok (parts ++ others))

  -- at most so many records, up to the end of the octets, each where the one before it ends; one too many is turned
  -- down where it starts
  abbrev pub records_read : Ghosts T → SectionKind → ℕ → ℕ → List ℕ → PartsRead T
  records_read kind section room place [] = Ok []
  records_read kind section zero place octets = Err (fault_at (refusal_of section) place)
  records_read kind section (suc room) place octets =
      and_then (record_of kind section place octets) (λ (part, rest).
      before (part ∷ []) (records_read kind section room (place + length part.octets) rest))

  -- the records of a section
  abbrev pub section_reads : Ghosts T → SectionState → PartsRead T
  section_reads kind section =
      records_read kind section.kind section.room section.place section.octets

  -- what a section reads as, by its next record and what it leaves
  abbrev pub after_next :
      Ghosts T → Result (Option (Part T)) SheetFault → SectionState → PartsRead T
  after_next kind (Ok (Some part)) left = before (part_state part ∷ []) (section_reads kind left)
  after_next kind (Ok None) left = Ok []
  after_next kind (Err fault) left = Err fault

  -- the parts of sections, one behind the other; the first refusal stands
  abbrev pub sections_read : Ghosts T → List SectionState → PartsRead T
  sections_read kind [] = Ok []
  sections_read kind (section ∷ sections) =
      and_then (section_reads kind section) (λ parts. before parts (sections_read kind sections))

  -- whether parts were read, or the refusal
  abbrev pub verdict_of : PartsRead T → Result (Unit {0}) SheetFault
  verdict_of read = and_then read (λ parts. Ok tt)
