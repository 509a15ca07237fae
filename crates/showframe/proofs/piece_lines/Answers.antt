use Rattle.std.proofs.Common.{◌≡◌, Ok, sym, refl, ◌∙◌}
use Rattle.loads.specs.declared.pieces.Piece.{Piece}
use Rattle.showframe.proofs.piece_lines.Goals as goal

-- the piece that the fields make
abbrev piece : Piece
piece = record { zoom = 20; column = 1048575; row = 349525; number = 3; body = 0x0123_4567_89AB_CDEF; held = refl }

-- the check finds no answer of its own
pub returns : goal.returns
returns c =
    let whole : Ok c.unwrap-load.result ≡ Ok piece = sym c.unwrap-load.ensures ∙ c.new.ensures.answer in
    let same : c.unwrap-load.result ≡ piece = cc in
    record { cases = rw same at c.frame_lines.ensures.cases }
