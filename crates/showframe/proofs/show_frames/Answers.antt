use Rattle.std.proofs.Common.{vec_items}
use Rattle.showframe.specs.Prints.{worked_lines}
use Rattle.showframe.proofs.Inputs.{input_appended}
use Rattle.showframe.proofs.show_frames.Goals as goal

pub returns : goal.returns
returns g c =
    let held = g.W.Write.contents in
    let last = rw (c.in_ok-frame_line.ensures.made, c.deref.ensures.value) at c.in_ok-writeln.ensures.bytes in
    record {
      printed = input_appended (g.R.Read.remaining c.args.input) (held c.args.output.now) (held c.write_worked.new.output) _ worked_lines (vec_items c.in_ok-octets.octets)
          c.in_ok-octets.ensures.read c.in_ok-write_worked.ensures.printed last;
    }
