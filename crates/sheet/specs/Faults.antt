-- The refusals of a sheet, by number, and their printed line.
use Rattle.std.specs.Prelude.{◌≡◌, ℕ, List, ◌++◌, Ok, Err, Result, codes, decimal}
use Rattle.sheet.specs.declared.faults.SheetRefusal.{SheetRefusal}
use Rattle.sheet.specs.declared.faults.SheetRefusal.TheVariants.{WrongSize, BadSetting, BadDistances, NoLoad, BadMark, BadCall}
use Rattle.sheet.specs.declared.faults.SheetFault.{SheetFault}
use Rattle.sheet.specs.declared.faults.ReadError.{ReadError}
use Rattle.sheet.specs.declared.faults.ReadError.TheVariants.{Refused, NoMemory}

-- the number of each refusal
abbrev pub number_of : SheetRefusal → ℕ
number_of WrongSize = 17
number_of BadSetting = 18
number_of BadDistances = 19
number_of NoLoad = 20
number_of BadMark = 21
number_of BadCall = 22

-- a refusal at an octet
abbrev pub fault_at : SheetRefusal → ℕ → SheetFault
fault_at refusal place = record { refusal = refusal; place = place }

-- what follows an answer; a refusal stands
abbrev pub and_then : {X Y : Type 0}
    → Result X SheetFault → (X → Result Y SheetFault) → Result Y SheetFault
and_then (Ok x) next = next x
and_then (Err fault) next = Err fault

-- the printed line of a sheet that is turned down
abbrev pub fault_text : SheetFault → List ℕ
fault_text fault =
    codes "sheet " ++ (decimal (number_of fault.refusal) ++ (codes " at " ++ decimal fault.place))

-- why there is no sheet, in words
abbrev pub error_text : ReadError → List ℕ
error_text (Refused fault) = fault_text fault
error_text NoMemory = codes "no memory"

-- why a reader has no answer: the refusal that is said, or want of memory, which may come whatever is said
abbrev pub Fails : {X : Type 0} → Result X SheetFault → ReadError → Type 0
Fails said (Refused fault) = said ≡ Err fault
Fails said NoMemory = Unit {0}
