-- The piece of a map tile, made from fields and as octets.
use Rattle.std.specs.Prelude.{◌≡◌, ℕ, Bool, true, false, if◌then◌else◌, List, ◌∷◌, ◌++◌, length, Ok, Err, Result, ◌==◌, slice_index, refl}
use Rattle.loads.specs.declared.faults.Fault.{Fault}
use Rattle.loads.specs.declared.kinds.Load.{Ghosts}
use Rattle.loads.specs.declared.faults.Fault.TheVariants.{WrongLength, OutsideRanges}
use Rattle.loads.specs.declared.pieces.Piece.{Piece}
use Rattle.loads.specs.Maps.{on_map}
use Rattle.loads.specs.Octets.{number_octets, field}

-- the number of the kind
abbrev pub piece_kind : ℕ
piece_kind = 2

-- the octets that a piece has
abbrev pub piece_size : ℕ
piece_size = 19

-- what is made of the fact that a test holds, or else the other
abbrev pub when_true : {X : Type 0} → (b : Bool) → (b ≡ true → X) → X → X
when_true true make other = make refl
when_true false make other = other

-- the piece of these fields, refused where the map has no such tile
abbrev pub piece_of : ℕ → ℕ → ℕ → ℕ → ℕ → Result Piece Fault
piece_of zoom column row number body =
    when_true (on_map zoom column row)
    (λ held. Ok (record {
      zoom = zoom;
      column = column;
      row = row;
      number = number;
      body = body;
      held = held;
    }))
    (Err OutsideRanges)

-- a piece is spelled field by field
abbrev pub piece_spelled : Piece → List ℕ
piece_spelled x =
    x.zoom ∷ number_octets 4 x.column ++ number_octets 4 x.row ++ number_octets 2 x.number ++ number_octets 8 x.body

-- octets of that number read as the piece of their fields
abbrev pub piece_reads : List ℕ → Result Piece Fault
piece_reads octets =
    if length octets == piece_size
    then piece_of
    (slice_index octets 0)
    (field 1 4 octets)
    (field 5 4 octets)
    (field 9 2 octets)
    (field 11 8 octets)
    else Err WrongLength

-- the kind as a whole
abbrev pub pieces : Ghosts Piece
pieces = record {
  KIND = piece_kind;
  SIZE = piece_size;
  spelled = piece_spelled;
  reads = piece_reads;
}
