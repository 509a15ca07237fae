-- A book: loads of one kind, read one after another.
use Rattle.std.specs.Prelude.{ℕ, zero, suc, List, [], ◌∷◌, take, drop, Ok, Err, Result}
use Rattle.loads.specs.declared.faults.Fault.{Fault}
use Rattle.loads.specs.declared.kinds.Load.{Ghosts}

module _ {T : Type 0} where
  -- a record that spells a load, before the loads behind it; one that spells none ends the book
  abbrev pub before : Result T Fault → List T → List T
  before (Ok load) loads = load ∷ loads
  before (Err fault) loads = []

  -- at most `count` loads, each from the next octets, as many as the kind has
  abbrev pub book_reads : Ghosts T → ℕ → List ℕ → List T
  book_reads kind zero octets = []
  book_reads kind (suc count) octets =
      before (kind.reads (take kind.SIZE octets)) (book_reads kind count (drop kind.SIZE octets))
