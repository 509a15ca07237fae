use Rattle.std.proofs.Common.{◌≡◌, ◌-◌, ◌++◌, take, vec_items, sym, ◌∙◌, arith, length-take}
use Rattle.std.proofs.lemmas.Result.{err_from_is_err_and}
use Rattle.loads.specs.Books.{book_reads}
use Rattle.loads.proofs.BookLaws.{record_reads, book_more, book_some, book_ends, book_full, book_back}
use Rattle.loads.proofs.books.Book.read.Goals as goal
use Rattle.loads.proofs.books.Book.read.Goals.{else-loop-test, then-loop-test+in_default, then-loop-test+in-Some+in_default-read}

pub loop-preserved : goal.loop-preserved
loop-preserved g c =
    let kind = g.T.Load in
    let rest = c.loop.rest.now in
    let cut = c.in-Some.ensures.cases in
    let read = record_reads kind c.in-Some.record.now rest c.SIZE.result _ cut.1 c.SIZE.ensures c.in-Ok.ensures.answer in
    let more = book_more kind c.args.count c.loop.counter (vec_items c.loop.loads) rest c.in-Ok.load c.loop-test.true read in
    rw (cut.2, c.SIZE.ensures, c.in_ok-push.ensures.items) (more ∙ c.loop.invariant)

pub returns : goal.returns
returns g c =
    let kind = g.T.Load in
    let laws = g.met.T.Load in
    let done = vec_items c.loop.loads in
    let rest = c.loop.rest.now in
    let left = c.args.count - c.loop.counter in
    let ended : done ++ book_reads kind left rest ≡ done =
    elim c.loop-test.branch [
      | else-loop-test w ↦ book_full kind c.args.count c.loop.counter done rest w.loop-test.false
      | then-loop-test+in_default w ↦ book_ends kind left done rest _ (laws.refused (take kind.SIZE rest) (λ full. let cut = w.in_default.ensures.variant.1 (omega (arith, length-take kind.SIZE rest)) in cc))
      | then-loop-test+in-Some+in_default-read w ↦ book_ends kind left done rest _ (record_reads kind w.in-Some.record.now rest w.SIZE.result _ w.in-Some.ensures.cases.1 w.SIZE.ensures w.in_default-read.ensures.answer)
    ] in
    let read = sym ended ∙ c.loop.invariant in
    record {
      cases = read;
      back = λ loads counted spelled. read ∙ (λ j. book_reads kind (counted j) (spelled j)) ∙ book_back kind laws.sized laws.back loads;
    }

pub returns-in_err-push-clause-cases : goal.returns-in_err-push-clause-cases
returns-in_err-push-clause-cases g c =
    let kind = g.T.Load in
    let rest = c.loop.rest.now in
    let read = record_reads kind c.in-Some.record.now rest c.SIZE.result _ c.in-Some.ensures.cases.1 c.SIZE.ensures c.in-Ok.ensures.answer in
    let some = book_some kind c.args.count c.loop.counter (vec_items c.loop.loads) rest c.in-Ok.load c.loop-test.true read in
    let p = err_from_is_err_and c.from_residual.result c.from_residual.ensures.1 in
    rw p.1 (p.2, rw c.loop.invariant at some)
