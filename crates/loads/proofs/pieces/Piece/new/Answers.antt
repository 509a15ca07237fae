use Rattle.std.proofs.Common.{sym}
use Rattle.loads.specs.PieceLaws.{piece_made}
use Rattle.loads.proofs.pieces.Piece.new.Goals as goal

-- the check finds no answer of its own
pub returns : goal.returns
returns c = record { answer = sym (piece_made _ _ _ _ _ _) }
