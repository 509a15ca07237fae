-- Octets in hexadecimal.
use Rattle.std.specs.Prelude.{ℕ, ◌+◌, ◌/◌, ◌%◌, if◌then◌else◌, List, [], ◌∷◌, nat_lt}

-- the ASCII code of a digit: 0 to 9, then A to F
abbrev pub digit : ℕ → ℕ
digit n = if nat_lt n 10 then 48 + n else 55 + n

-- two digits an octet, the higher first
abbrev pub hexadecimal : List ℕ → List ℕ
hexadecimal [] = []
hexadecimal (octet ∷ octets) = digit (octet / 16) ∷ digit (octet % 16) ∷ hexadecimal octets
