use Rattle.std.proofs.Common.{◌≡◌, string_bytes, take}
use Rattle.showpile.specs.Prints.{use_lines as lines_of}
use Rattle.showpile.proofs.use_lines.Given as goal

abbrev pub invariant-loop-used : goal.invariant-loop-used
invariant-loop-used g l = string_bytes l.text ≡ lines_of g.T.Load (take l.used-index l.uses)
