use Rattle.std.proofs.Common.{◌≡◌, ℕ, ◌*◌, ◌%◌, ◌^◌, ◌<◌, nat_lt, lt-ltb, refl, true, List, [], drop, ◌∷◌, ◌++◌, Ok, Err, Result, ap, sym, ◌∙◌, arith}
use Rattle.loads.specs.declared.faults.Fault.{Fault}
use Rattle.loads.specs.declared.pieces.Piece.{Piece}
use Rattle.loads.specs.Maps.{on_map}
use Rattle.loads.specs.PieceLaws.{piece_made}
use Rattle.pace.specs.Frames.{fields_of}
use Rattle.pace.proofs.frames.Pair.new.Goals as goal

-- the piece of a number is on the map
held : (number : ℕ) → number < 1024 → on_map 20 number (number * 3 % 2 ^ 32) ≡ true
held number small =
    let column : nat_lt number (2 ^ 20) ≡ true = lt-ltb number (2 ^ 20) (omega (arith, small)) in
    let row : nat_lt (number * 3 % 2 ^ 32) (2 ^ 20) ≡ true = lt-ltb (number * 3 % 2 ^ 32) (2 ^ 20) (omega (arith, small)) in
    rw (column, row) refl

abbrev values : Result Piece Fault → List ℕ
values (Ok piece) = piece.body ∷ piece.column ∷ piece.row ∷ piece.number ∷ []
values (Err fault) = []

pub unwrap-piece-requires : goal.unwrap-piece-requires
unwrap-piece-requires c =
    rw (c.new.ensures.answer ∙ piece_made 20 c.args.number (c.args.number * 3 % 2 ^ 32) _ _ (held c.args.number c.requires)) refl

pub returns : goal.returns
returns c =
    let made = sym c.unwrap-piece.ensures ∙ c.new.ensures.answer ∙ piece_made 20 c.args.number (c.args.number * 3 % 2 ^ 32) _ _ (held c.args.number c.requires) in
    record {
      answer =
          (λ i. values (Ok (c.new-2.ensures.answer i).load) ++ (c.new-3.ensures.answer i).load.value ∷ [])
          ∙ ap (λ piece. values piece ++ c.args.number ∷ []) made
          ∙ ap (λ (from : ℕ). from * 0x9E3779B97F4A7C15 % 2 ^ 64 ∷ drop 1 (fields_of c.args.number)) c.from-body.ensures;
    }
