use Rattle.std.proofs.Common.{◌≡◌, ◌-◌, ◌++◌, vec_items}
use Rattle.loads.specs.Books.{book_reads}
use Rattle.loads.proofs.books.Book.read.Given as goal

abbrev pub invariant-loop : goal.invariant-loop
invariant-loop g l =
    vec_items l.loads ++ book_reads g.T.Load (l.count - l.counter) l.rest
    ≡ book_reads g.T.Load l.count l.octets
