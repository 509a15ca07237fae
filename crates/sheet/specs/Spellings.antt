-- How a sheet is spelled: each record by what it means, and the trailer by the records before it.
use Rattle.std.specs.Prelude.{◌≡◌, ℕ, ◌+◌, ◌==◌, List, [], ◌∷◌, ◌++◌, All, filter, length, Ok}
use Rattle.std.specs.List.{flat_map}
use Rattle.loads.specs.declared.kinds.Load.{Ghosts}
use Rattle.loads.specs.Octets.{number_octets}
use Rattle.channels.specs.declared.marks.Mark.{Mark}
use Rattle.channels.specs.declared.marks.Mark.TheVariants.{Pass, Lose, Delay}
use Rattle.link.specs.declared.calls.Call.{Call}
use Rattle.link.specs.declared.calls.Call.TheVariants.{Request}
use Rattle.link.specs.Words.{letter}
use Rattle.sheet.specs.declared.parts.Way.TheVariants.{ToHut, Back}
use Rattle.sheet.specs.Parts.{Meaning, a_load, a_mark, a_call, PartState}
use Rattle.sheet.specs.Sheets.{SheetParts, sheet_of}

-- the octet of a mark
abbrev pub mark_octet : Mark → ℕ
mark_octet Pass = 0
mark_octet Lose = 1
mark_octet Delay = 2

-- the octets of a call: its letter, and behind Q start and count
abbrev pub call_spelled : Call → List ℕ
call_spelled (Request start count) =
    letter (Request start count) ∷ number_octets 2 start ++ number_octets 2 count
call_spelled call = letter call ∷ []

module _ {T : Type 0} where
  -- octets that spell what a record means; a load's are those that read as it
  abbrev pub Spells : Ghosts T → List ℕ → Meaning T → Type 0
  Spells kind octets (a_load load) = (length octets ≡ kind.SIZE) × (kind.reads octets ≡ Ok load)
  Spells kind octets (a_mark way mark) = octets ≡ mark_octet mark ∷ []
  Spells kind octets (a_call call) = octets ≡ call_spelled call

  -- the list that a record stands in: 0 the book, 1 K's marks, 2 L's marks, 3 the calls
  abbrev pub list_of : Meaning T → ℕ
  list_of (a_load load) = 0
  list_of (a_mark ToHut mark) = 1
  list_of (a_mark Back mark) = 2
  list_of (a_call call) = 3

  -- the records of a list
  abbrev pub in_list : ℕ → List (PartState T) → List (PartState T)
  in_list list parts = filter (λ part. list_of part.meaning == list) parts

  -- the octets of records, one after another
  abbrev pub octets_in : List (PartState T) → List ℕ
  octets_in parts = flat_map (λ part. part.octets) parts

  -- how many octets a list has
  abbrev pub size_in : ℕ → List (PartState T) → ℕ
  size_in list parts = length (octets_in (in_list list parts))

  -- the trailer behind records: for each list how many octets it and those behind it have, the kind, the repeats
  abbrev pub trailer_spelled : Ghosts T → ℕ → List (PartState T) → List ℕ
  trailer_spelled kind repeats parts =
      number_octets 4 (size_in 0 parts + size_in 1 parts + size_in 2 parts + size_in 3 parts)
      ++ number_octets 4 (size_in 1 parts + size_in 2 parts + size_in 3 parts)
      ++ number_octets 4 (size_in 2 parts + size_in 3 parts)
      ++ number_octets 4 (size_in 3 parts)
      ++ kind.KIND ∷ repeats ∷ []

  -- parts that start at a place, each where the one before it ends
  abbrev pub AreInPlaces : ℕ → List (PartState T) → Type 0
  AreInPlaces place [] = Unit {0}
  AreInPlaces place (part ∷ parts) =
      (part.place ≡ place) × AreInPlaces (place + length part.octets) parts

  -- the sheet that octets spell. Nothing is skipped and nothing overlaps: the parts in order, and the trailer behind
  -- them, are the octets. The parts stand list after list, and each spells what it means; the rest is what they give
  pub record IsSpelled (kind : Ghosts T) (sheet : SheetParts T) (octets : List ℕ) : Type 0 where
    pub whole : octets_in sheet.parts ++ trailer_spelled kind sheet.repeats sheet.parts ≡ octets
    pub in_places : AreInPlaces 0 sheet.parts
    pub in_order :
        in_list 0 sheet.parts ++ in_list 1 sheet.parts
        ++ in_list 2 sheet.parts ++ in_list 3 sheet.parts
        ≡ sheet.parts
    pub spelled : All (λ part. Spells kind part.octets part.meaning) sheet.parts
    pub gives : sheet ≡ sheet_of sheet.repeats sheet.parts
