-- A round more.
use Rattle.std.proofs.Common.{◌≡◌, ℕ, zero, suc, ◌+◌, List, [], ◌∷◌, ◌++◌, refl, ap, ◌∙◌, arith, add-one, get_or, set}
use Rattle.std.specs.Prelude.{fold}
use Rattle.std.specs.Fn.{iterate}
use Rattle.std.specs.List.{flat_map, range_with_len}
use Rattle.std.proofs.lemmas.Grind.{flat_map-append, fold-append}
use Rattle.std.proofs.lemmas.List.{append-nil}

-- a number more in a range
range_more : (from count : ℕ) → range_with_len from (suc count) ≡ range_with_len from count ++ (from + count) ∷ []
range_more from zero = ap (λ last. last ∷ []) (omega arith)
range_more from (suc count) =
    ap (λ others. from ∷ others) (range_more (from + 1) count ∙ ap (λ last. range_with_len (from + 1) count ++ last ∷ []) (omega arith))

-- a list more
pub flat_push : {X A : Type 0} (makes : X → List A) (xs : List X) (x : X) → flat_map makes (xs ++ x ∷ []) ≡ flat_map makes xs ++ makes x
flat_push makes xs x = flat_map-append makes xs (x ∷ []) ∙ ap (λ last. flat_map makes xs ++ last) (append-nil (makes x))

-- what a round makes stands after what the rounds before it make
pub flat_more : {A : Type 0} (makes : ℕ → List A) (rounds : ℕ)
    → flat_map makes (range_with_len 0 (rounds + 1)) ≡ flat_map makes (range_with_len 0 rounds) ++ makes rounds
flat_more makes rounds =
    ap (λ count. flat_map makes (range_with_len 0 count)) (add-one rounds)
    ∙ ap (flat_map makes) (range_more 0 rounds ∙ ap (λ last. range_with_len 0 rounds ++ last ∷ []) (omega arith))
    ∙ flat_push makes (range_with_len 0 rounds) rounds

-- and is made after it
pub rounds_more : {A B : Type 0} (step : B → A → B) (makes : ℕ → List A) (rounds : ℕ) (start : B)
    → fold step start (flat_map makes (range_with_len 0 (rounds + 1)))
    ≡ fold step (fold step start (flat_map makes (range_with_len 0 rounds))) (makes rounds)
rounds_more step makes rounds start =
    ap (fold step start) (flat_more makes rounds) ∙ fold-append step start (flat_map makes (range_with_len 0 rounds)) (makes rounds)

-- an item is replaced by one that makes the same
pub flat_set : {X A : Type 0} (makes : X → List A) (xs : List X) (i : ℕ) (y d : X) → makes y ≡ makes (get_or xs i d)
    → flat_map makes (set xs i y) ≡ flat_map makes xs
flat_set makes [] i y d same = refl
flat_set makes (x ∷ xs) zero y d same = ap (λ first. first ++ flat_map makes xs) same
flat_set makes (x ∷ xs) (suc i) y d same = ap (λ others. makes x ++ others) (flat_set makes xs i y d same)

-- a step more
step_more : {A : Type 0} (step : A → A) (count : ℕ) (start : A) → iterate step (suc count) start ≡ step (iterate step count start)
step_more step zero start = refl
step_more step (suc count) start = step_more step count (step start)

pub iterate_more : {A : Type 0} (step : A → A) (count : ℕ) (start : A) → iterate step (count + 1) start ≡ step (iterate step count start)
iterate_more step count start = ap (λ count. iterate step count start) (add-one count) ∙ step_more step count start
