-- The places of a range.
use Rattle.std.proofs.Common.{◌≡◌, ℕ, zero, suc, ◌-◌, ◌<◌, drop, Some, None, Option, refl, rules, tests, arith}
use Rattle.std.specs.Prelude.{◌==◌, ◌+◌, MatchOption}
use Rattle.std.specs.List.{range_with_len}
use Rattle.link.specs.Senders.{is_lone, is_done}

pub lone_range : (start count : ℕ) → is_lone (range_with_len start count) ≡ (count == 1)
lone_range start zero = search (rules, tests)
lone_range start (suc zero) = search (rules, tests)
lone_range start (suc (suc count)) = search (rules, tests)

pub done_range : (start count : ℕ) → is_done (range_with_len start count) ≡ (count == 0)
done_range start zero = search (rules, tests)
done_range start (suc count) = search (rules, tests)

-- what a range's `next` does: the first place goes, if there is one
rest_left : (start over count : ℕ) → over - start ≡ count
    → range_with_len (start + 1) (over - (start + 1)) ≡ drop 1 (range_with_len start count)
rest_left start over zero left = let gone : over - (start + 1) ≡ 0 = omega (left, arith) in rw gone refl
rest_left start over (suc count) left = let gone : over - (start + 1) ≡ count = omega (left, arith) in rw gone refl

pub rest_next : (start over start' over' : ℕ) (result : Option ℕ)
    → (over' ≡ over) × MatchOption result ((over - start ≡ 0) × (start' ≡ start)) (λ x. (0 < over - start) × (x ≡ start) × (start' ≡ start + 1))
    → range_with_len start' (over' - start') ≡ drop 1 (range_with_len start (over - start))
rest_next start over start' over' None (same, (empty, stays)) = rw (same, stays, empty) refl
rest_next start over start' over' (Some x) (same, (some, first, moved)) = rw (same, moved) (rest_left start over (over - start) refl)
