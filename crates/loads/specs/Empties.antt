-- The empty load as octets.
use Rattle.std.specs.Prelude.{ℕ, if◌then◌else◌, List, [], length, Ok, Err, Result, ◌==◌}
use Rattle.loads.specs.declared.faults.Fault.{Fault}
use Rattle.loads.specs.declared.kinds.Load.{Ghosts}
use Rattle.loads.specs.declared.faults.Fault.TheVariants.{WrongLength}
use Rattle.loads.specs.declared.empties.EmptyLoad.{EmptyLoad}

-- the number of the kind
abbrev pub empty_kind : ℕ
empty_kind = 0

-- the octets that an empty load has
abbrev pub empty_size : ℕ
empty_size = 0

-- an empty load has no octets
abbrev pub empty_spelled : EmptyLoad → List ℕ
empty_spelled x = []

-- no octets read as the empty load
abbrev pub empty_reads : List ℕ → Result EmptyLoad Fault
empty_reads octets = if length octets == empty_size then Ok (record {}) else Err WrongLength

-- the kind as a whole
abbrev pub empties : Ghosts EmptyLoad
empties = record {
  KIND = empty_kind;
  SIZE = empty_size;
  spelled = empty_spelled;
  reads = empty_reads;
}
