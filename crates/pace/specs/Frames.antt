-- Frames written and read back: what is read, and the text that it comes to.
use Rattle.std.specs.Prelude.{◌≡◌, ℕ, ◌+◌, ◌*◌, ◌%◌, ◌^◌, List, [], ◌∷◌, ◌++◌, take, fold, Ok, codes, decimal, not, bit_and, ◌==◌}
use Rattle.std.specs.Fn.{iterate}
use Rattle.std.specs.List.{flat_map, range_with_len}
use Rattle.loads.specs.declared.frames.Frame.{Frame}
use Rattle.loads.specs.declared.kinds.Load.{Ghosts}
use Rattle.loads.specs.Frames.{frame_reads}
use Rattle.loads.specs.Pieces.{pieces}
use Rattle.loads.specs.Readings.{readings}
use Rattle.pace.specs.declared.frames.Pair.{Pair}
use Rattle.pace.specs.declared.frames.Slot.{Slot}

-- a frame of a load, whose bits are the lowest three of a number
abbrev pub frame_of : {T : Type 0} → ℕ → T → Frame T
frame_of number load = record {
  first = not (bit_and number 1 == 0);
  last = not (bit_and number 2 == 0);
  toggle = not (bit_and number 4 == 0);
  load = load;
}

-- the octets in the room of a frame read as the frame
abbrev pub HoldsFrame : {T : Type 0} → Ghosts T → Slot T → Type 0
HoldsFrame kind slot = frame_reads kind (take (kind.SIZE + 1) slot.octets) ≡ Ok slot.frame

-- and so for a frame of each kind
pub record HoldsFrames (pair : Pair) : Type 0 where
  pub piece : HoldsFrame pieces pair.piece
  pub reading : HoldsFrame readings pair.reading

-- what is added up of a frame of each kind: the piece's body, column, row and number, and the reading's value
abbrev pub fields : Pair → List ℕ
fields pair =
    let piece = pair.piece.frame.load in
    piece.body ∷ piece.column ∷ piece.row ∷ piece.number ∷ pair.reading.frame.load.value ∷ []

-- the same of the two frames of a number
abbrev pub fields_of : ℕ → List ℕ
fields_of number = number * 0x9E3779B97F4A7C15 % 2 ^ 64 ∷ number ∷ number * 3 % 2 ^ 32 ∷ number % 65536 ∷ number ∷ []

-- a sum has 64 bits
abbrev pub added : ℕ → ℕ → ℕ
added sum value = (sum + value) % 2 ^ 64

-- how many frames of each kind a block has
abbrev pub block_length : ℕ
block_length = 1024

-- what the frames of a block have
unfoldable pub block : List ℕ
block = flat_map fields_of (range_with_len 0 block_length)

-- a block's sum more
abbrev pub added_block : List ℕ → ℕ → ℕ
added_block values sum = added sum (fold added 0 values)

-- all that is printed of so many rounds, each of which reads what a block has
unfoldable pub frames_text : ℕ → List ℕ
frames_text rounds =
    codes "frames " ++ (decimal (rounds * (2 * block_length) % 2 ^ 64)
    ++ (codes " sum " ++ decimal (iterate (added_block block) rounds 0)))
