-- An answer as a number, and a refusal in words.
use Rattle.std.specs.Prelude.{ℕ, List, ◌++◌, Ok, Err, Result, codes, decimal}

-- 0 for an accepted call, else the number of its refusal
abbrev pub answer_number : {X E : Type 0} → (E → ℕ) → Result X E → ℕ
answer_number number (Ok x) = 0
answer_number number (Err refusal) = number refusal

-- the refusal of this number in words
abbrev pub refused_text : ℕ → List ℕ
refused_text number = codes "refused " ++ decimal number
