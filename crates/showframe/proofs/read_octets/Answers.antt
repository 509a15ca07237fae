use Rattle.std.proofs.Common.{vec_items}
use Rattle.showframe.proofs.Inputs.{read_limited}
use Rattle.showframe.proofs.read_octets.Goals as goal

pub returns : goal.returns
returns g c =
    let known = rw (c.take.ensures.inner, c.take.ensures.limit, c.new-octets.ensures.items) at c.in_ok-read_to_end.ensures.bytes in
    record { read = read_limited (g.R.Read.remaining c.args.input) 33 (vec_items c.read_to_end.new.buf) known }
