use Rattle.std.proofs.Common.{◌≡◌, fold, take}
use Rattle.std.specs.List.{flat_map}
use Rattle.pace.specs.Frames.{fields, added}
use Rattle.pace.proofs.frames.read_block.Given as goal

abbrev pub invariant-loop-pair : goal.invariant-loop-pair
invariant-loop-pair l = l.sum ≡ fold added 0 (flat_map fields (take l.pair-index l.pairs))
