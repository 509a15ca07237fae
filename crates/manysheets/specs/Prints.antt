-- Sheets by name, one on a line: the name, a space, and the sheet's octets in hexadecimal. What such a text prints.
use Rattle.std.specs.Prelude.{ℕ, ◌+◌, ◌-◌, ◌*◌, ◌≤◌, ◌⊎◌, List, [], ◌∷◌, ◌++◌, Contains, All, flat_map, nat_lt, if◌then◌else◌, ◌==◌}
use Rattle.std.specs.List.{before_first, after_first}
use Rattle.std.specs.Str.Lines.{lines}
use Rattle.frametext.specs.Lines.{line}
use Rattle.sheetrun.specs.Prints.{sheet_prints}

-- the value of a digit
abbrev pub value_of : ℕ → ℕ
value_of digit = if nat_lt digit 65 then digit - 48 else digit - 55

-- a digit: 0 to 9, or A to F
abbrev pub IsDigit : ℕ → Type 0
IsDigit digit = ((48 ≤ digit) × (digit ≤ 57)) ⊎ ((65 ≤ digit) × (digit ≤ 70))

-- the octets that digits spell, two for each; a last one by itself is passed over
abbrev pub octets_of : List ℕ → List ℕ
octets_of (high ∷ low ∷ digits) = (value_of high * 16 + value_of low) ∷ octets_of digits
octets_of digits = []

-- they are digits, but for a last one by itself
abbrev pub AreDigits : List ℕ → Type 0
AreDigits (high ∷ low ∷ digits) = IsDigit high × IsDigit low × AreDigits digits
AreDigits digits = Unit {0}

-- the name on a line, and the digits
abbrev pub name_of : List ℕ → List ℕ
name_of text = before_first (λ octet. octet == 32) text

abbrev pub digits_of : List ℕ → List ℕ
digits_of text = after_first (λ octet. octet == 32) text

-- a line has a name and digits
abbrev pub NamesSheet : List ℕ → Type 0
NamesSheet text = Contains text 32 × AreDigits (digits_of text)

-- the name, and what the sheet prints
abbrev pub named_prints : List ℕ → List ℕ
named_prints text = line (name_of text) ++ sheet_prints (octets_of (digits_of text))

-- all that a text prints
abbrev pub text_prints : List ℕ → List ℕ
text_prints text = flat_map named_prints (lines text)

-- each line of a text has a name and digits
abbrev pub NamesSheets : List ℕ → Type 0
NamesSheets text = All NamesSheet (lines text)
