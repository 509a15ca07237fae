use Rattle.std.proofs.KnownBytes.{Appends-trans}
use Rattle.frametext.specs.Lines.{line}
use Rattle.showframe.specs.Prints.{piece_lines, reading_lines, reply_lines}
use Rattle.showframe.proofs.write_worked.Goals as goal

pub returns : goal.returns
returns g c =
    let held = g.W.Write.contents in
    let first = rw c.in_ok-piece_lines.ensures.cases at c.in_ok-writeln.ensures.bytes in
    let second = rw c.in_ok-reading_lines.ensures.cases at c.in_ok-writeln-2.ensures.bytes in
    let third = rw c.in_ok-reply_lines.ensures.cases at c.in_ok-writeln-3.ensures.bytes in
    record {
      printed = Appends-trans (held c.args.output.now) (held c.writeln.new.self) (held c.writeln-3.new.self) (line piece_lines) _ first
          (Appends-trans (held c.writeln.new.self) (held c.writeln-2.new.self) (held c.writeln-3.new.self) (line reading_lines) (line reply_lines) second third);
    }
