use Rattle.std.proofs.Common.{map, take, flat_map, All}
use Rattle.std.specs.Io.KnownBytes.{Appends}
use Rattle.manysheets.specs.Prints.{named_prints, NamesSheet}
use Rattle.manysheets.proofs.write_lines.Given as goal

abbrev pub invariant-loop-line : goal.invariant-loop-line
invariant-loop-line g l = record {
  printed : Appends (g.W.Write.contents l.initial.output) (g.W.Write.contents l.output) (flat_map named_prints (map (λ line. line.now) (take l.line-index l.found)));
  named : All NamesSheet (map (λ line. line.now) (take l.line-index l.found));
}
