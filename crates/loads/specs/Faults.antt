-- The refusals of readers, writers and the book, by number.
use Rattle.std.specs.Prelude.{ℕ}
use Rattle.loads.specs.declared.faults.Fault.{Fault}
use Rattle.loads.specs.declared.faults.Fault.TheVariants.{WrongLength, WrongKind, OutsideRanges, NoMemory}

-- the number of each refusal
abbrev pub number_of : Fault → ℕ
number_of WrongLength = 14
number_of WrongKind = 15
number_of OutsideRanges = 16
number_of NoMemory = 255
