-- A number comes back from its octets. A law of the piece rests on this, and of its own crate a law
-- cites only what stands in specs/. Assumes nothing.
use Rattle.std.specs.Prelude.{◌≡◌, ℕ, zero, suc, ◌+◌, ◌*◌, ◌/◌, ◌%◌, ◌^◌, ◌<◌}
use Rattle.std.proofs.Common.{ap, ◌∙◌, mul_assoc, add-mul, div-add-mod', pow-suc, arith}
use Rattle.std.proofs.Math.Nat.{pow-succ'}
use Rattle.std.specs.Int.Digits.{number_from_digits_after}
use Rattle.loads.specs.Octets.{number_octets, value_of}

pub power_pos : (k : ℕ) → 0 < 256 ^ k
power_pos zero = omega arith
power_pos (suc k) = omega (arith, power_pos k, pow-suc 256 k)

-- a number comes back from its octets, below what was spelled before it
back_after : (k a n : ℕ)
    → number_from_digits_after 256 a (number_octets (suc k) n) ≡ a * 256 ^ suc k + n
back_after zero a n = omega arith
back_after (suc k) a n =
    let p : ℕ = 256 ^ suc k in
    let whole : n / p * p + n % p ≡ n = div-add-mod' n p in
    let above : (a * 256 + n / p) * p ≡ a * (256 * p) + n / p * p =
    add-mul (a * 256) (n / p) p ∙ ap (λ m. m + n / p * p) (mul_assoc a 256 p) in
    let power : 256 ^ suc (suc k) ≡ 256 * p = pow-succ' 256 (suc k) in
    back_after k (a * 256 + n / p) (n % p) ∙ rw power (omega arith)

-- a number comes back from its octets
pub value_back : (k n : ℕ) → value_of (number_octets (suc k) n) ≡ n
value_back k n = back_after k 0 n ∙ omega arith
