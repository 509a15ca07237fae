-- A sheet of whichever kind of load its trailer names.
use Rattle.std.specs.Prelude.{ℕ, ◌<◌, List, length, Ok, Err, Result}
use Rattle.loads.specs.Pieces.{pieces}
use Rattle.loads.specs.Readings.{readings}
use Rattle.sheet.specs.declared.anysheets.AnySheet.{AnySheet}
use Rattle.sheet.specs.declared.anysheets.AnySheet.TheVariants.{Readings, Pieces}
use Rattle.sheet.specs.declared.faults.SheetFault.{SheetFault}
use Rattle.sheet.specs.declared.layouts.LoadKind.{LoadKind}
use Rattle.sheet.specs.declared.layouts.LoadKind.TheVariants.{Reading, Piece}
use Rattle.sheet.specs.Faults.{and_then}
use Rattle.sheet.specs.Layouts.{LayoutState, layout_reads, octets_of}
use Rattle.sheet.specs.Sheets.{sheet_read}
use Rattle.sheet.specs.Spellings.{IsSpelled}

-- the sheet of a layout, by the kind of load
abbrev pub sheet_by_kind : LoadKind → LayoutState → Result AnySheet SheetFault
sheet_by_kind Reading layout = and_then (sheet_read readings layout) (λ sheet. Ok (Readings sheet))
sheet_by_kind Piece layout = and_then (sheet_read pieces layout) (λ sheet. Ok (Pieces sheet))

-- the sheet that octets are, or why they are none: the smallest number, at its first place
abbrev pub sheet_reads : List ℕ → Result AnySheet SheetFault
sheet_reads octets = and_then (layout_reads octets) (λ layout. sheet_by_kind layout.kind layout)

-- a good trailer with octets before it
abbrev pub HasOctetsBefore : Result LayoutState SheetFault → Type 0
HasOctetsBefore (Ok layout) = 0 < length (octets_of layout.sections)
HasOctetsBefore (Err fault) = ⊥

-- the sheet that octets spell: of readings, whose octet kind is 1, or of pieces, whose is 2
abbrev pub IsSheetOf : AnySheet → List ℕ → Type 0
IsSheetOf (Readings sheet) octets = IsSpelled readings sheet octets
IsSheetOf (Pieces sheet) octets = IsSpelled pieces sheet octets
