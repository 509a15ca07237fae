-- A piece comes back from its fields and from its octets. A law of the piece cites this, and of its
-- own crate a law cites only what stands in specs/. Assumes nothing.
use Rattle.std.specs.Prelude.{◌≡◌, ℕ, Bool, true, false, Ok, refl}
use Rattle.std.proofs.Common.{ap, ◌∙◌}
use Rattle.std.proofs.Math.Bool.{Bool-set}
use borrow.Author.Tests.{clash}
use Rattle.loads.specs.declared.pieces.Piece.{Piece}
use Rattle.loads.specs.Maps.{on_map}
use Rattle.loads.specs.Pieces.{when_true, piece_of, piece_spelled, piece_reads}
use Rattle.loads.specs.ValueLaws.{value_back}

when_true-held : {X : Type 0} (b : Bool) (make : b ≡ true → X) (other : X) (held : b ≡ true)
    → when_true b make other ≡ make held
when_true-held true make other held = ap make (Bool-set true true refl held)
when_true-held false make other held = absurd (clash held)

-- a piece is what its fields make, by whatever proof that it is on the map
pub piece_made : (zoom column row number body : ℕ) (held : on_map zoom column row ≡ true)
    → piece_of zoom column row number body ≡ Ok (record {
      zoom = zoom;
      column = column;
      row = row;
      number = number;
      body = body;
      held = held;
    })
piece_made zoom column row number body held = when_true-held (on_map zoom column row) _ _ held

pub piece_back : (x : Piece) → piece_reads (piece_spelled x) ≡ Ok x
piece_back x =
    (λ i. piece_of
    x.zoom
    (value_back 3 x.column i)
    (value_back 3 x.row i)
    (value_back 1 x.number i)
    (value_back 7 x.body i))
    ∙ piece_made x.zoom x.column x.row x.number x.body x.held
