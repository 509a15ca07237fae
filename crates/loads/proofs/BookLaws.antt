-- A book that is read record by record. Assumes nothing.
use Rattle.std.proofs.Common.{◌≡◌, ℕ, zero, suc, ◌+◌, ◌-◌, ◌<◌, ◌≤◌, List, [], ◌∷◌, ◌++◌, length, take, drop, Ok, Err, Result, sym, refl, ap, ◌∙◌, arith}
use Rattle.std.specs.List.{flat_map}
use Rattle.std.proofs.lemmas.List.{append_assoc, append-nil, length-append, length_push, take_at, drop_at}
use Rattle.loads.specs.declared.faults.Fault.{Fault}
use Rattle.loads.specs.declared.kinds.Load.{Ghosts}
use Rattle.loads.specs.Books.{before, book_reads}

module _ {T : Type 0} (kind : Ghosts T) where
  -- the record that is cut off reads as its octets do
  pub record_reads : (octets rest : List ℕ) (size : ℕ) (answer : Result T Fault)
      → octets ≡ take size rest → size ≡ kind.SIZE → answer ≡ kind.reads octets
      → kind.reads (take kind.SIZE rest) ≡ answer
  record_reads octets rest size answer cut count read = cc

  -- one record more: what was read before it stays in front
  pub book_more : (count i : ℕ) (done : List T) (rest : List ℕ) (load : T)
      → i < count → kind.reads (take kind.SIZE rest) ≡ Ok load
      → (done ++ load ∷ []) ++ book_reads kind (count - (i + 1)) (drop kind.SIZE rest)
      ≡ done ++ book_reads kind (count - i) rest
  book_more count i done rest load more reading =
      let left : count - i ≡ suc (count - (i + 1)) = omega arith in
      let behind = book_reads kind (count - (i + 1)) (drop kind.SIZE rest) in
      append_assoc done (load ∷ []) behind
      ∙ ap (λ r. done ++ before r behind) (sym reading)
      ∙ ap (λ n. done ++ book_reads kind n rest) (sym left)

  -- a book has a load where a record spells one
  pub book_some : (count i : ℕ) (done : List T) (rest : List ℕ) (load : T)
      → i < count → kind.reads (take kind.SIZE rest) ≡ Ok load
      → 0 < length (done ++ book_reads kind (count - i) rest)
  book_some count i done rest load more reading =
      let behind = book_reads kind (count - (i + 1)) (drop kind.SIZE rest) in
      let longer = ap length (book_more count i done rest load more reading) in
      omega (arith, longer, length-append (done ++ load ∷ []) behind, length_push done load)

  -- a record that spells none ends the book
  pub book_ends : (n : ℕ) (done : List T) (rest : List ℕ) (fault : Fault)
      → kind.reads (take kind.SIZE rest) ≡ Err fault → done ++ book_reads kind n rest ≡ done
  book_ends zero done rest fault reading = append-nil done
  book_ends (suc n) done rest fault reading =
      ap (λ r. done ++ before r (book_reads kind n (drop kind.SIZE rest))) reading ∙ append-nil done

  -- and so does the count
  pub book_full : (count i : ℕ) (done : List T) (rest : List ℕ)
      → count ≤ i → done ++ book_reads kind (count - i) rest ≡ done
  book_full count i done rest full =
      let none : count - i ≡ 0 = omega arith in
      ap (λ n. done ++ book_reads kind n rest) none ∙ append-nil done

  -- loads that are spelled one after another are a book
  pub book_back : ((x : T) → length (kind.spelled x) ≡ kind.SIZE)
      → ((x : T) → kind.reads (kind.spelled x) ≡ Ok x)
      → (loads : List T) → book_reads kind (length loads) (flat_map kind.spelled loads) ≡ loads
  book_back sized back [] = refl
  book_back sized back (x ∷ loads) =
      let front = take_at (kind.spelled x) (flat_map kind.spelled loads) kind.SIZE (sized x) in
      let rest = drop_at (kind.spelled x) (flat_map kind.spelled loads) kind.SIZE (sized x) in
      (λ i. before (kind.reads (front i)) (book_reads kind (length loads) (rest i)))
      ∙ ap (λ r. before r (book_reads kind (length loads) (flat_map kind.spelled loads))) (back x)
      ∙ ap (λ xs. x ∷ xs) (book_back sized back loads)
