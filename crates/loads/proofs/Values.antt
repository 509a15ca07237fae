-- What `to_be_bytes` gives. Assumes nothing.
use Rattle.std.specs.Prelude.{◌≡◌, ℕ, zero, suc, ◌+◌, ◌*◌, ◌/◌, ◌%◌, ◌^◌, ◌<◌, [], ◌∷◌, refl}
use Rattle.std.proofs.Common.{sym, ap, ◌∙◌, div-one, mod-lt, mod-eq_of_lt, arith}
use Rattle.std.proofs.Math.Nat.{pow-succ'}
use Rattle.std.proofs.Math.Arith.{mod-mul, digits_div, digits_mod}
use Rattle.std.specs.Int.{bytes_high_first}
use Rattle.loads.specs.Octets.{number_octets}
use Rattle.loads.specs.ValueLaws.{power_pos}

-- the lowest octets of a number
lowest : (k n : ℕ) → number_octets k (n % 256 ^ k) ≡ bytes_high_first k n
lowest zero n = refl
lowest (suc zero) n = ap (λ o. o ∷ []) (div-one (n % 256))
lowest (suc (suc k)) n =
    let c : ℕ = 256 ^ suc k in
    let split : n % 256 ^ suc (suc k) ≡ (n / c % 256) * c + n % c =
    ap (λ p. n % p) (pow-succ' 256 (suc k)) ∙ mod-mul n (omega arith) (power_pos (suc k)) in
    let below : n % c < c = mod-lt n (power_pos (suc k)) in
    ap (number_octets (suc (suc k))) split
    ∙ (λ i. digits_div (n / c % 256) below i ∷ number_octets (suc k) (digits_mod (n / c % 256) below i))
    ∙ ap (λ os. (n / c % 256) ∷ os) (lowest (suc k) n)

-- `to_be_bytes` gives the octets of a number that fits them
pub spells : (k n : ℕ) → n < 256 ^ k → bytes_high_first k n ≡ number_octets k n
spells k n fits = sym (lowest k n) ∙ ap (number_octets k) (mod-eq_of_lt fits)
