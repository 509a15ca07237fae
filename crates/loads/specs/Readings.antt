-- The reading as octets.
use Rattle.std.specs.Prelude.{ℕ, if◌then◌else◌, List, length, Ok, Err, Result, ◌==◌}
use Rattle.loads.specs.declared.faults.Fault.{Fault}
use Rattle.loads.specs.declared.kinds.Load.{Ghosts}
use Rattle.loads.specs.declared.faults.Fault.TheVariants.{WrongLength}
use Rattle.loads.specs.declared.readings.Reading.{Reading}
use Rattle.loads.specs.Octets.{number_octets, value_of}

-- the number of the kind
abbrev pub reading_kind : ℕ
reading_kind = 1

-- the octets that a reading has
abbrev pub reading_size : ℕ
reading_size = 4

-- a reading is spelled as its value
abbrev pub reading_spelled : Reading → List ℕ
reading_spelled x = number_octets 4 x.value

-- octets of that number read as the reading of their value
abbrev pub reading_reads : List ℕ → Result Reading Fault
reading_reads octets =
    if length octets == reading_size
    then Ok (record { value = value_of octets })
    else Err WrongLength

-- the kind as a whole
abbrev pub readings : Ghosts Reading
readings = record {
  KIND = reading_kind;
  SIZE = reading_size;
  spelled = reading_spelled;
  reads = reading_reads;
}
