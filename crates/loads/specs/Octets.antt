-- Numbers as octets, highest first, and a writer's buffer.
use Rattle.std.specs.Prelude.{ℕ, zero, suc, ◌/◌, ◌%◌, ◌^◌, if◌then◌else◌, List, [], ◌∷◌, ◌++◌, length, take, drop, Ok, Err, Result, nat_le}
use Rattle.std.specs.Int.Digits.{number_from_digits}
use Rattle.loads.specs.declared.faults.Fault.{Fault}
use Rattle.loads.specs.declared.faults.Fault.TheVariants.{WrongLength}

-- a number in so many octets, highest first; the first takes all that the others leave
abbrev pub number_octets : ℕ → ℕ → List ℕ
number_octets zero n = []
number_octets (suc k) n = (n / 256 ^ k) ∷ number_octets k (n % 256 ^ k)

-- the number that octets spell, highest first
abbrev pub value_of : List ℕ → ℕ
value_of octets = number_from_digits 256 octets

-- the number in the `size` octets from `at` on
abbrev pub field : ℕ → ℕ → List ℕ → ℕ
field at size octets = value_of (take size (drop at octets))

-- a writer's answer: refused where the buffer is shorter than the octets
abbrev pub write_answer : List ℕ → List ℕ → Result (Unit {0}) Fault
write_answer octets buffer =
    if nat_le (length octets) (length buffer) then Ok tt else Err WrongLength

-- what a writer leaves of its buffer: the octets at the front and the rest as before; refused, all as before
abbrev pub write_leaves : List ℕ → List ℕ → List ℕ
write_leaves octets buffer =
    if nat_le (length octets) (length buffer) then octets ++ drop (length octets) buffer else buffer

-- a value of `size` octets, written into a buffer and read back: itself, or refused for want of room
abbrev pub round_trip : {X : Type 0} → ℕ → X → List ℕ → Result X Fault
round_trip size value buffer = if nat_le size (length buffer) then Ok value else Err WrongLength
