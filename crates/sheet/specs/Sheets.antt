-- A whole sheet: its parts, what they give a run, and why it is turned down.
use Rattle.std.specs.Prelude.{ℕ, List, Ok, Result}
use Rattle.loads.specs.declared.kinds.Load.{Ghosts}
use Rattle.channels.specs.declared.marks.Mark.{Mark}
use Rattle.link.specs.declared.calls.Call.{Call}
use Rattle.sheet.specs.declared.faults.SheetFault.{SheetFault}
use Rattle.sheet.specs.declared.parts.Way.TheVariants.{ToHut, Back}
use Rattle.sheet.specs.Faults.{and_then}
use Rattle.sheet.specs.Layouts.{LayoutState}
use Rattle.sheet.specs.Parts.{PartState, loads_in, marks_in, calls_in}
use Rattle.sheet.specs.Sections.{sections_read}

-- a sheet that was read: its repeats and its parts in order; and of these its book, the marks of both ways, and its
-- calls
pub record SheetParts (T : Type 0) : Type 0 where
  pub repeats : ℕ
  pub parts : List (PartState T)
  pub book : List T
  pub to_hut : List Mark
  pub back : List Mark
  pub calls : List Call

module _ {T : Type 0} where
  -- a sheet of these parts
  abbrev pub sheet_of : ℕ → List (PartState T) → SheetParts T
  sheet_of repeats parts = record {
    repeats = repeats;
    parts = parts;
    book = loads_in parts;
    to_hut = marks_in ToHut parts;
    back = marks_in Back parts;
    calls = calls_in parts;
  }

  -- the sheet of a layout, with loads of one kind
  abbrev pub sheet_read : Ghosts T → LayoutState → Result (SheetParts T) SheetFault
  sheet_read kind layout =
      and_then (sections_read kind layout.sections) (λ parts. Ok (sheet_of layout.repeats parts))
