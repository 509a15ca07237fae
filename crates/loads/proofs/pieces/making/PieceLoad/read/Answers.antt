use Rattle.std.proofs.Common.{◌≡◌, ◌∙◌, rules}
use Rattle.loads.specs.Octets.{field}
use Rattle.loads.proofs.pieces.making.PieceLoad.read.Goals as goal

pub returns : goal.returns
returns c =
    let octets = c.args.octets.now in
    let column : c.from_be_bytes.result ≡ field 1 4 octets = search rules in
    let row : c.from_be_bytes-2.result ≡ field 5 4 octets = search rules in
    let number : c.from_be_bytes-3.result ≡ field 9 2 octets = search rules in
    let body : c.from_be_bytes-4.result ≡ field 11 8 octets = search rules in
    let made = rw (column, row, number, body) at c.new.ensures in
    record { answer = made.answer ∙ rw c.if-octets-ne-SIZE.false }
