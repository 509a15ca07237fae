use Rattle.std.proofs.lemmas.List.{take_all}
use Rattle.manysheets.proofs.Texts.{line_printed, line_named}
use Rattle.manysheets.proofs.write_lines.Goals as goal

pub loop-line-preserved : goal.loop-line-preserved
loop-line-preserved g c =
    let held = g.W.Write.contents in
    let found = c.args.found.now in
    let written = rw (c.as_bytes.ensures.value, c.in_ok-named_lines.ensures.made) at c.in_ok-write_all.ensures.bytes in
    record {
      printed = line_printed found c.loop-line.line-index _ c.loop-line-test.true (held c.args.output.now) (held c.loop-line.output) (held c.write_all.new.self)
          c.loop-line.invariant.printed written;
      named = line_named found c.loop-line.line-index _ c.loop-line-test.true c.loop-line.invariant.named c.in_ok-named_lines.ensures.named;
    }

pub returns-clause-named : goal.returns-clause-named
returns-clause-named g c = rw (take_all c.loop-line.line-index c.args.found.now c.loop-line-test.false) at c.loop-line.invariant.named
