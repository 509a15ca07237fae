-- Octets are those of the number that they spell.
use Rattle.std.proofs.Common.{◌≡◌, ℕ, suc, ◌+◌, ◌*◌, ◌^◌, ◌<◌, List, [], ◌∷◌, length, refl, ap, sym, ◌∙◌, add-mul, mul_assoc, arith}
use Rattle.std.specs.List.{All}
use Rattle.std.specs.Int.Digits.{number_from_digits_after}
use Rattle.std.proofs.Math.Nat.{pow-succ'}
use Rattle.std.proofs.Math.Arith.{digits_div, digits_mod}
use Rattle.std.proofs.lemmas.Int.Digits.{number_lt}
use Rattle.std.proofs.lemmas.List.Elements.{All-tail, recursion_from_All}
use Rattle.loads.specs.Octets.{number_octets, value_of}

-- each is below 256
abbrev pub AreOctets : List ℕ → Type 0
AreOctets octets = All (λ octet. octet < 256) octets

module _ (octet : ℕ) (octets : List ℕ) where
  -- the number that octets spell, by the first of them
  value_first : ((a : ℕ) → number_from_digits_after 256 a octets ≡ a * 256 ^ length octets + value_of octets) → value_of (octet ∷ octets) ≡ octet * 256 ^ length octets + value_of octets
  value_first behind = behind (0 * 256 + octet) ∙ ap (λ first. first * 256 ^ length octets + value_of octets) (omega arith)

-- and behind another number
value_behind : (a : ℕ) (octets : List ℕ) → number_from_digits_after 256 a octets ≡ a * 256 ^ length octets + value_of octets
value_behind a [] = omega arith
value_behind a (octet ∷ octets) =
    let p : ℕ = 256 ^ length octets in
    let behind = λ (a : ℕ). value_behind a octets in
    let power : 256 ^ length (octet ∷ octets) ≡ 256 * p = pow-succ' 256 (length octets) in
    let above : (a * 256 + octet) * p ≡ a * (256 * p) + octet * p = add-mul (a * 256) octet p ∙ ap (λ m. m + octet * p) (mul_assoc a 256 p) in
    let first = value_first octet octets behind in
    behind (a * 256 + octet) ∙ ap (λ m. m + value_of octets) above ∙ sym (ap (λ p. a * p + value_of (octet ∷ octets)) power ∙ ap (λ v. a * (256 * p) + v) first ∙ omega arith)

-- octets are those of their number
pub octets_back : (octets : List ℕ) → AreOctets octets → number_octets (length octets) (value_of octets) ≡ octets
octets_back [] below = refl
octets_back (octet ∷ octets) below =
    let others = All-tail (λ octet. octet < 256) octet octets below in
    let less : value_of octets < 256 ^ length octets = number_lt 256 octets (recursion_from_All _ octets others) in
    let split = value_first octet octets (λ a. value_behind a octets) in
    ap (number_octets (suc (length octets))) split
    ∙ (λ i. digits_div octet less i ∷ number_octets (length octets) (digits_mod octet less i))
    ∙ ap (λ octets. octet ∷ octets) (octets_back octets others)
