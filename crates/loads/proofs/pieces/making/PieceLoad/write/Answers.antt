use Rattle.std.proofs.Common.{◌≡◌, ◌∙◌, ap, length, drop, arith, rules, le-leb}
use Rattle.std.proofs.lemmas.List.{drop-drop}
use Rattle.loads.specs.Pieces.{piece_spelled}
use Rattle.loads.proofs.Values.{spells}
use Rattle.loads.proofs.pieces.making.PieceLoad.write.Goals as goal

pub returns-clause-after : goal.returns-clause-after
returns-clause-after c =
    let x = c.args.self.now in
    let buffer = c.args.buffer.now in
    let column = c.to_be_bytes.ensures ∙ spells 4 x.column (search rules) in
    let row = c.to_be_bytes-2.ensures ∙ spells 4 x.row (search rules) in
    let number = c.to_be_bytes-3.ensures ∙ spells 2 x.number (search rules) in
    let body = c.to_be_bytes-4.ensures ∙ spells 8 x.body (search rules) in
    let rest1 : c.unwrap.result.1.now ≡ drop 1 buffer = search rules in
    let rest2 : c.unwrap-2.result.1.now ≡ drop 4 c.unwrap.result.1.now = search rules in
    let rest3 : c.unwrap-3.result.1.now ≡ drop 4 c.unwrap-2.result.1.now = search rules in
    let rest4 : c.unwrap-4.result.1.now ≡ drop 2 c.unwrap-3.result.1.now = search rules in
    let rest5 : c.unwrap-5.result.1.now ≡ drop 8 c.unwrap-4.result.1.now = search rules in
    let rest : c.unwrap-5.result.1.now ≡ drop 19 buffer =
    rest5 ∙ ap (drop 8) (rest4 ∙ ap (drop 2) (rest3 ∙ ap (drop 4) (rest2 ∙ ap (drop 4) rest1)))
    ∙ drop-drop 8 2 (drop 4 (drop 4 (drop 1 buffer))) ∙ drop-drop 10 4 (drop 4 (drop 1 buffer))
    ∙ drop-drop 14 4 (drop 1 buffer) ∙ drop-drop 18 1 buffer in
    rw (column, row, number, body, rest) (rw (le-leb (length (piece_spelled x)) (length buffer) (omega arith)))
