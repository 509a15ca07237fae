-- What a sheet prints: a line for each call, or one that says why it is turned down.
use Rattle.std.specs.Prelude.{ℕ, ◌+◌, ◌<◌, ◌⊎◌, List, length, take, Ok, Err, Result}
use Rattle.loads.specs.Pieces.{pieces}
use Rattle.loads.specs.Readings.{readings}
use Rattle.link.specs.declared.events.Event.{Event}
use Rattle.link.specs.Laws.{IsLawful}
use Rattle.frametext.specs.Lines.{line}
use Rattle.linktext.specs.Lines.{event_lines}
use Rattle.sheet.specs.declared.anysheets.AnySheet.{AnySheet}
use Rattle.sheet.specs.declared.anysheets.AnySheet.TheVariants.{Readings, Pieces}
use Rattle.sheet.specs.declared.faults.SheetFault.{SheetFault}
use Rattle.sheet.specs.AnySheets.{sheet_reads, HasOctetsBefore}
use Rattle.sheet.specs.Layouts.{most_octets, layout_reads}
use Rattle.sheet.specs.Faults.{fault_text}
use Rattle.sheet.specs.Sheets.{SheetParts}
use Rattle.sheetrun.specs.CallsByMarks.{link_over, calls_by_marks}

module _ {T : Type 0} where
  -- the calls of a sheet with their answers
  abbrev pub events_of : SheetParts T → List (Event T)
  events_of sheet = (calls_by_marks sheet.book sheet.calls (link_over sheet.repeats sheet.to_hut sheet.back)).0

  -- the law holds of a sheet's run
  abbrev pub IsLawfulRun : SheetParts T → Type 0
  IsLawfulRun sheet = IsLawful sheet.book sheet.repeats (events_of sheet)

-- the lines of a sheet
abbrev pub run_lines : AnySheet → List ℕ
run_lines (Readings sheet) = event_lines readings (events_of sheet)
run_lines (Pieces sheet) = event_lines pieces (events_of sheet)

-- what is printed: the lines of a sheet, or of octets that are none the line that says why
abbrev pub prints : Result AnySheet SheetFault → List ℕ
prints (Ok sheet) = run_lines sheet
prints (Err fault) = line (fault_text fault)

-- all that a sheet prints
abbrev pub sheet_prints : List ℕ → List ℕ
sheet_prints octets = prints (sheet_reads octets)

-- the octets of an input that are run as a sheet: one more than it may have, so that a longer input is seen to be too long
abbrev pub sheet_octets : List ℕ → List ℕ
sheet_octets input = take (most_octets + 1) input

-- memory may be wanting only where anything is printed, or a good trailer has octets before it
abbrev pub NeedsMemory : List ℕ → Type 0
NeedsMemory octets = (0 < length (sheet_prints octets)) ⊎ HasOctetsBefore (layout_reads octets)

-- where the octets are a sheet, the law holds of its run
abbrev pub RunsLawfully : Result AnySheet SheetFault → Type 0
RunsLawfully (Ok (Readings sheet)) = IsLawfulRun sheet
RunsLawfully (Ok (Pieces sheet)) = IsLawfulRun sheet
RunsLawfully (Err fault) = Unit {0}
