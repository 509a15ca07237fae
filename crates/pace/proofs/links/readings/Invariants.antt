use Rattle.std.proofs.Common.{◌≡◌, map}
use Rattle.std.specs.List.{range_with_len}
use Rattle.pace.specs.Links.{reading_at}
use Rattle.pace.proofs.links.readings.Given as goal

abbrev pub invariant-loop-place : goal.invariant-loop-place
invariant-loop-place l = l.readings.items ≡ map reading_at (range_with_len 0 l.place)
