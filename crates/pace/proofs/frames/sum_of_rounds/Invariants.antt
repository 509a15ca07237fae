use Rattle.std.proofs.Common.{◌≡◌}
use Rattle.std.specs.Fn.{iterate}
use Rattle.std.specs.List.{flat_map}
use Rattle.pace.specs.Frames.{fields, added_block}
use Rattle.pace.proofs.frames.sum_of_rounds.Given as goal

abbrev pub invariant-loop : goal.invariant-loop
invariant-loop l = record {
  frames : flat_map fields l.pairs ≡ flat_map fields l.fn.pairs;
  sum : l.sum ≡ iterate (added_block (flat_map fields l.fn.pairs)) l.counter 0;
}
