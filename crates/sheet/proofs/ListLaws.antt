-- The four lists of a sheet, and the trailer that tells their lengths.
use Rattle.std.proofs.Common.{◌≡◌, true, false, ℕ, ◌+◌, ◌*◌, ◌<◌, ◌≤◌, ◌==◌, List, [], ◌∷◌, ◌++◌, length, take, drop, slice_index, subst, refl, ap, sym, ◌∙◌, arith, eq-eqb, ne_eqb, length-take-le, drop-cons}
use Rattle.std.specs.List.{All}
use Rattle.std.proofs.lemmas.List.{append_assoc, append-nil, length-drop, drop_all}
use Rattle.std.proofs.lemmas.List.Folds.{drop_split}
use Rattle.std.proofs.lemmas.List.Elements.{All-head, All-tail, All-take, All-drop, filter-append}
use Rattle.loads.specs.Octets.{number_octets}
use Rattle.sheet.specs.Layouts.{distance}
use Rattle.sheet.specs.Parts.{PartState}
use Rattle.sheet.specs.Spellings.{list_of, in_list}
use Rattle.sheet.proofs.OctetLaws.{AreOctets, octets_back}

module _ {T : Type 0} where
  -- records of one list
  abbrev pub AreOf : ℕ → List (PartState T) → Type 0
  AreOf list parts = All (λ part. list_of part.meaning ≡ list) parts

  -- all of them are in it
  in_own : (list : ℕ) (parts : List (PartState T)) → AreOf list parts → in_list list parts ≡ parts
  in_own list [] are = refl
  in_own list (part ∷ parts) are =
      let here : (list_of part.meaning == list) ≡ true = eq-eqb _ _ (All-head (λ part. list_of part.meaning ≡ list) part parts are) in
      rw here (ap (λ parts. part ∷ parts) (in_own list parts (All-tail (λ part. list_of part.meaning ≡ list) part parts are)))

  -- and none in another
  in_other : (list other : ℕ) (parts : List (PartState T)) → (other ≡ list → ⊥) → AreOf other parts → in_list list parts ≡ []
  in_other list other [] apart are = refl
  in_other list other (part ∷ parts) apart are =
      let is = All-head (λ part. list_of part.meaning ≡ other) part parts are in
      let here : (list_of part.meaning == list) ≡ false = ne_eqb _ _ (λ same. apart (sym is ∙ same)) in
      rw here (in_other list other parts apart (All-tail (λ part. list_of part.meaning ≡ other) part parts are))

  -- a list of records of four lists
  in_four : (list : ℕ) (book to_hut back calls : List (PartState T)) → in_list list (book ++ to_hut ++ back ++ calls) ≡ in_list list book ++ in_list list to_hut ++ in_list list back ++ in_list list calls
  in_four list book to_hut back calls = simp filter-append

  -- the four lists of records that stand list after list
  pub record Lists (book to_hut back calls parts : List (PartState T)) : Type 0 where
    pub all : book ++ to_hut ++ back ++ calls ≡ parts
    pub in_book : in_list 0 parts ≡ book
    pub in_to_hut : in_list 1 parts ≡ to_hut
    pub in_back : in_list 2 parts ≡ back
    pub in_calls : in_list 3 parts ≡ calls

  pub lists_are : (book to_hut back calls parts : List (PartState T)) → book ++ to_hut ++ back ++ calls ≡ parts
      → AreOf 0 book → AreOf 1 to_hut → AreOf 2 back → AreOf 3 calls → Lists book to_hut back calls parts
  lists_are book to_hut back calls parts all b t a c =
      let parted = λ (list : ℕ). ap (in_list list) (sym all) ∙ in_four list book to_hut back calls in
      record {
        all = all;
        in_book = parted 0 ∙ rw (in_own 0 book b, in_other 0 1 to_hut (λ is. omega arith) t, in_other 0 2 back (λ is. omega arith) a, in_other 0 3 calls (λ is. omega arith) c) (simp append-nil);
        in_to_hut = parted 1 ∙ rw (in_other 1 0 book (λ is. omega arith) b, in_own 1 to_hut t, in_other 1 2 back (λ is. omega arith) a, in_other 1 3 calls (λ is. omega arith) c) (simp append-nil);
        in_back = parted 2 ∙ rw (in_other 2 0 book (λ is. omega arith) b, in_other 2 1 to_hut (λ is. omega arith) t, in_own 2 back a, in_other 2 3 calls (λ is. omega arith) c) (simp append-nil);
        in_calls = parted 3 ∙ rw (in_other 3 0 book (λ is. omega arith) b, in_other 3 1 to_hut (λ is. omega arith) t, in_other 3 2 back (λ is. omega arith) a, in_own 3 calls c) refl;
      }

-- a distance is spelled where it is read
distance_back : (list : ℕ) (trailer : List ℕ) → 4 * list + 4 ≤ length trailer → AreOctets trailer → number_octets 4 (distance list trailer) ≡ take 4 (drop (4 * list) trailer)
distance_back list trailer fits below =
    let here = drop (4 * list) trailer in
    let four : length (take 4 here) ≡ 4 = length-take-le 4 here (omega (arith, length-drop (4 * list) trailer)) in
    subst (λ size. number_octets size (distance list trailer) ≡ take 4 here) four
    (octets_back (take 4 here) (All-take (λ octet. octet < 256) 4 here (All-drop (λ octet. octet < 256) (4 * list) trailer below)))

-- a trailer by its distances and its settings
pub trailer_back : (trailer : List ℕ) → length trailer ≡ 18 → AreOctets trailer
    → number_octets 4 (distance 0 trailer) ++ number_octets 4 (distance 1 trailer) ++ number_octets 4 (distance 2 trailer) ++ number_octets 4 (distance 3 trailer)
    ++ slice_index trailer 16 ∷ slice_index trailer 17 ∷ [] ≡ trailer
trailer_back trailer size below =
    let settings : drop 16 trailer ≡ slice_index trailer 16 ∷ slice_index trailer 17 ∷ [] =
    drop-cons trailer 16 0 (omega arith) ∙ ap (λ others. slice_index trailer 16 ∷ others) (drop-cons trailer 17 0 (omega arith) ∙ ap (λ others. slice_index trailer 17 ∷ others) (drop_all 18 trailer (omega arith))) in
    let back = λ (list : ℕ) (less : list < 4). distance_back list trailer (omega arith) below in
    let cut : take 4 trailer ++ (take 4 (drop 4 trailer) ++ (take 4 (drop 8 trailer) ++ (take 4 (drop 12 trailer) ++ drop 16 trailer))) ≡ trailer =
    sym (drop_split trailer 0 4 (omega arith) ∙ ap (λ others. take 4 trailer ++ others) (drop_split trailer 4 8 (omega arith) ∙ ap (λ others. take 4 (drop 4 trailer) ++ others)
    (drop_split trailer 8 12 (omega arith) ∙ ap (λ others. take 4 (drop 8 trailer) ++ others) (drop_split trailer 12 16 (omega arith))))) in
    (λ i. back 0 (omega arith) i ++ back 1 (omega arith) i ++ back 2 (omega arith) i ++ back 3 (omega arith) i ++ sym settings i) ∙ simp append_assoc cut
