-- The trailer of a sheet: which kind of load it has, how many repeats, and its four lists.
use Rattle.std.specs.Prelude.{ℕ, ◌+◌, ◌*◌, ◌-◌, Bool, if◌then◌else◌, ◌&&◌, ◌||◌, ◌==◌, nat_le, nat_lt, List, [], ◌∷◌, length, take, drop, Ok, Err, Result, Some, None, Option, slice_index, slice_range}
use Rattle.std.specs.List.{flat_map}
use Rattle.loads.specs.Octets.{field}
use Rattle.loads.specs.Pieces.{piece_kind}
use Rattle.loads.specs.Readings.{reading_kind}
use Rattle.link.specs.Timers.{most_repeats}
use Rattle.sheet.specs.declared.faults.SheetFault.{SheetFault}
use Rattle.sheet.specs.declared.faults.SheetRefusal.TheVariants.{WrongSize, BadSetting, BadDistances}
use Rattle.sheet.specs.declared.layouts.LoadKind.{LoadKind}
use Rattle.sheet.specs.declared.layouts.LoadKind.TheVariants.{Reading, Piece}
use Rattle.sheet.specs.declared.parts.Way.TheVariants.{ToHut, Back}
use Rattle.sheet.specs.declared.sections.SectionKind.TheVariants as section
use Rattle.sheet.specs.Faults.{fault_at}
use Rattle.sheet.specs.Sections.{SectionState, section_of}

-- what the trailer of a sheet says: the kind of load, the repeats, and the lists before it
pub record LayoutState : Type 0 where
  pub kind : LoadKind
  pub repeats : ℕ
  pub sections : List SectionState

-- the octets of a trailer
abbrev pub trailer_size : ℕ
trailer_size = 18

-- the most octets of a sheet
abbrev pub most_octets : ℕ
most_octets = 16384

-- where the trailer starts
abbrev pub trailer_place : List ℕ → ℕ
trailer_place octets = length octets - trailer_size

-- the octets before the trailer
abbrev pub lists_of : List ℕ → List ℕ
lists_of octets = take (trailer_place octets) octets

-- the octets of the trailer
abbrev pub trailer_of : List ℕ → List ℕ
trailer_of octets = drop (trailer_place octets) octets

-- the distance that a trailer has back from its first octet to the start of a list: 0 the book, 1 K's marks, 2 L's
-- marks, 3 calls
abbrev pub distance : ℕ → List ℕ → ℕ
distance list trailer = field (4 * list) 4 trailer

-- where in a trailer its octet kind is
abbrev pub kind_at : ℕ
kind_at = 16

-- and its octet repeats
abbrev pub repeats_at : ℕ
repeats_at = 17

-- the kind of load that an octet names
abbrev pub load_kind : ℕ → Option LoadKind
load_kind octet =
    if octet == reading_kind then Some Reading
    else (if octet == piece_kind then Some Piece else None)

-- a trailer at a place: the book starts at the first octet, and no list before the one that it follows
abbrev pub distances_fit : ℕ → List ℕ → Bool
distances_fit place trailer =
    (distance 0 trailer == place)
    && nat_le (distance 1 trailer) (distance 0 trailer)
    && nat_le (distance 2 trailer) (distance 1 trailer)
    && nat_le (distance 3 trailer) (distance 2 trailer)

-- where a list of the octets before a trailer starts
abbrev pub start_of : ℕ → List ℕ → List ℕ → ℕ
start_of list lists trailer = length lists - distance list trailer

-- the octets of the book
abbrev pub book_octets : List ℕ → List ℕ → List ℕ
book_octets lists trailer = take (start_of 1 lists trailer) lists

-- of K's marks
abbrev pub to_hut_octets : List ℕ → List ℕ → List ℕ
to_hut_octets lists trailer =
    slice_range lists (start_of 1 lists trailer) (start_of 2 lists trailer)

-- of L's marks
abbrev pub back_octets : List ℕ → List ℕ → List ℕ
back_octets lists trailer = slice_range lists (start_of 2 lists trailer) (start_of 3 lists trailer)

-- of the calls
abbrev pub calls_octets : List ℕ → List ℕ → List ℕ
calls_octets lists trailer = drop (start_of 3 lists trailer) lists

-- the four lists
abbrev pub sections_of : List ℕ → List ℕ → List SectionState
sections_of lists trailer =
    section_of section.Book 0 (book_octets lists trailer)
    ∷ section_of (section.Marks ToHut) (start_of 1 lists trailer) (to_hut_octets lists trailer)
    ∷ section_of (section.Marks Back) (start_of 2 lists trailer) (back_octets lists trailer)
    ∷ section_of section.Calls (start_of 3 lists trailer) (calls_octets lists trailer)
    ∷ []

-- what a trailer behind lists says
abbrev pub layout_of : LoadKind → List ℕ → List ℕ → LayoutState
layout_of kind lists trailer = record {
  kind = kind;
  repeats = slice_index trailer repeats_at;
  sections = sections_of lists trailer;
}

-- by the kind, the repeats and the distances of a trailer: the first two are turned down at their octets, distances
-- where the trailer starts
abbrev pub settings_read : Option LoadKind → List ℕ → List ℕ → Result LayoutState SheetFault
settings_read None lists trailer = Err (fault_at BadSetting (length lists + kind_at))
settings_read (Some kind) lists trailer =
    if nat_lt most_repeats (slice_index trailer repeats_at)
    then Err (fault_at BadSetting (length lists + repeats_at))
    else (
    if distances_fit (length lists) trailer
    then Ok (layout_of kind lists trailer)
    else Err (fault_at BadDistances (length lists))
    )

-- the layout of a sheet, or why it is turned down for its size or its trailer
abbrev pub layout_reads : List ℕ → Result LayoutState SheetFault
layout_reads octets =
    if nat_lt (length octets) trailer_size || nat_lt most_octets (length octets)
    then Err (fault_at WrongSize (length octets))
    else settings_read
    (load_kind (slice_index (trailer_of octets) kind_at)) (lists_of octets) (trailer_of octets)

-- the octets of sections, one after another
abbrev pub octets_of : List SectionState → List ℕ
octets_of sections = flat_map (λ section. section.octets) sections
