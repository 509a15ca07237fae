use Rattle.std.proofs.Common.{◌≡◌}
use Rattle.std.specs.List.{flat_map, range_with_len}
use Rattle.pace.specs.Frames.{fields, fields_of}
use Rattle.pace.proofs.frames.pairs.Given as goal

abbrev pub invariant-loop-number : goal.invariant-loop-number
invariant-loop-number l = flat_map fields l.pairs.items ≡ flat_map fields_of (range_with_len 0 l.number)
