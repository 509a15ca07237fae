use Rattle.std.proofs.Common.{◌≡◌}
use Rattle.std.specs.List.{AllWithin, flat_map}
use Rattle.pace.specs.Frames.{HoldsFrames, fields}
use Rattle.pace.proofs.frames.write_block.Given as goal

abbrev pub invariant-loop-pair : goal.invariant-loop-pair
invariant-loop-pair l = record {
  frames : flat_map fields l.pairs ≡ flat_map fields l.fn.pairs;
  written : AllWithin HoldsFrames l.pairs 0 l.pair-index;
}
