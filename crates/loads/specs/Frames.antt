-- A frame as octets, over what its load kind says.
use Rattle.std.specs.Prelude.{ℕ, ◌+◌, ◌%◌, ◌^◌, Bool, if◌then◌else◌, List, ◌∷◌, length, drop, Ok, Err, Result, ◌==◌, slice_index}
use Rattle.std.specs.Int.{bit_at}
use Rattle.loads.specs.declared.faults.Fault.{Fault}
use Rattle.loads.specs.declared.faults.Fault.TheVariants.{WrongLength, WrongKind}
use Rattle.loads.specs.declared.frames.Frame.{Frame}
use Rattle.loads.specs.declared.kinds.Load.{Ghosts}

-- what a bit adds to its octet; bit 0 is the lowest
abbrev pub bit_value : ℕ → Bool → ℕ
bit_value place on = if on then 2 ^ place else 0

-- whether a bit of an octet is on
abbrev pub bit_on : ℕ → ℕ → Bool
bit_on place octet = bit_at octet place == 1

-- the number of the kind in a header
abbrev pub kind_of : ℕ → ℕ
kind_of octet = octet % 2 ^ 5

module _ {T : Type 0} where
  -- a load that was read, under the bits of a header
  abbrev pub frame_of : ℕ → Result T Fault → Result (Frame T) Fault
  frame_of octet (Ok load) =
      Ok (record {
        first = bit_on 7 octet;
        last = bit_on 6 octet;
        toggle = bit_on 5 octet;
        load = load;
      })
  frame_of octet (Err fault) = Err fault

-- by what the load kind says
module _ {T : Type 0} (kind : Ghosts T) where
  -- the first octet: first in bit 7, last in bit 6, toggle in bit 5, the kind in bits 4 to 0
  abbrev pub header : Frame T → ℕ
  header frame =
      bit_value 7 frame.first + (bit_value 6 frame.last + (bit_value 5 frame.toggle + kind.KIND))

  -- the header, and then the load
  abbrev pub frame_spelled : Frame T → List ℕ
  frame_spelled frame = header frame ∷ kind.spelled frame.load

  -- what octets read as: their number is looked at first, then the kind, then the load
  abbrev pub frame_reads : List ℕ → Result (Frame T) Fault
  frame_reads octets =
      let first : ℕ = slice_index octets 0 in
      let load : List ℕ = drop 1 octets in
      if length octets == kind.SIZE + 1
      then (if kind_of first == kind.KIND then frame_of first (kind.reads load) else Err WrongKind)
      else Err WrongLength
