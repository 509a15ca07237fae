use Rattle.std.proofs.Common.{◌+◌, vec_items}
use Rattle.sheet.specs.Layouts.{most_octets}
use Rattle.sheetrun.proofs.Inputs.{read_limited}
use Rattle.sheetrun.proofs.streams.read_octets.Goals as goal

pub returns : goal.returns
returns g c =
    let known = rw (c.take.ensures.inner, c.take.ensures.limit, c.new-octets.ensures.items) at c.in_ok-read_to_end.ensures.bytes in
    record { read = read_limited (g.R.Read.remaining c.args.input) (most_octets + 1) (vec_items c.read_to_end.new.buf) known }
