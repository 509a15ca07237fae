-- What is read of an input up to a limit.
use Rattle.std.proofs.Common.{◌≡◌, ℕ, List, take, Option, None, Some, IfSome, option_map}

-- what is known up to a limit, of an input that is known
pub read_limited : (known : Option (List ℕ)) (limit : ℕ) (octets : List ℕ) → IfSome (option_map (take limit) known) (λ all. octets ≡ all) → IfSome known (λ all. octets ≡ take limit all)
read_limited None limit octets read = tt
read_limited (Some all) limit octets read = read
