-- The records of a sheet as parts of it, and what a list of parts gives a run.
use Rattle.std.specs.Prelude.{ℕ, List, [], ◌∷◌}
use Rattle.std.specs.List.{flat_map}
use Rattle.channels.specs.declared.marks.Mark.{Mark}
use Rattle.link.specs.declared.calls.Call.{Call}
use Rattle.sheet.specs.declared.parts.Way.{Way}
use Rattle.sheet.specs.declared.parts.Way.TheVariants.{ToHut, Back}
use Rattle.sheet.specs.declared.parts.Part.{Part}
use Rattle.sheet.specs.declared.parts.Part.TheVariants as part

-- what the octets of a record mean: a load of the book, a mark for frames of one way, or a call
pub data Meaning (T : Type 0) : Type 0 where
  a_load : T → Meaning T
  a_mark : Way → Mark → Meaning T
  a_call : Call → Meaning T

-- a record with its place and its octets
pub record PartState (T : Type 0) : Type 0 where
  pub place : ℕ
  pub octets : List ℕ
  pub meaning : Meaning T

module _ {T : Type 0} where
  -- a part as its place, the octets that it borrows, and their meaning
  abbrev pub part_state : Part T → PartState T
  part_state (part.BookRecord place octets load) =
      record { place = place; octets = octets.now; meaning = a_load load }
  part_state (part.Mark place octets way mark) =
      record { place = place; octets = octets.now; meaning = a_mark way mark }
  part_state (part.Call place octets call) =
      record { place = place; octets = octets.now; meaning = a_call call }

  -- the load that a meaning has, if it is one of the book
  abbrev pub load_in : Meaning T → List T
  load_in (a_load load) = load ∷ []
  load_in meaning = []

  -- the mark that it has for frames of one way
  abbrev pub mark_in : Way → Meaning T → List Mark
  mark_in ToHut (a_mark ToHut mark) = mark ∷ []
  mark_in Back (a_mark Back mark) = mark ∷ []
  mark_in way meaning = []

  -- the call that it has
  abbrev pub call_in : Meaning T → List Call
  call_in (a_call call) = call ∷ []
  call_in meaning = []

  -- the loads of parts, in order
  abbrev pub loads_in : List (PartState T) → List T
  loads_in parts = flat_map (λ part. load_in part.meaning) parts

  -- their marks for frames of one way
  abbrev pub marks_in : Way → List (PartState T) → List Mark
  marks_in way parts = flat_map (λ part. mark_in way part.meaning) parts

  -- their calls
  abbrev pub calls_in : List (PartState T) → List Call
  calls_in parts = flat_map (λ part. call_in part.meaning) parts
