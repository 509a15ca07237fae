use Rattle.std.proofs.Common.{◌≡◌, ◌++◌, length, vec_items}
use Rattle.manysheets.specs.Prints.{octets_of as spelled, AreDigits}
use Rattle.manysheets.proofs.octets_of.Given as goal

abbrev pub invariant-loop-left : goal.invariant-loop-left
invariant-loop-left l = record {
  made : vec_items l.octets ++ spelled l.left ≡ spelled l.digits;
  digits : AreDigits l.left → AreDigits l.digits;
}

abbrev pub decreases-loop-left : goal.decreases-loop-left
decreases-loop-left l = length l.left
