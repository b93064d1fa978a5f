use Rattle.pawn_list_keeper.proofs.ListReads.{found_place, next_place, next_book}
use Rattle.std.proofs.Common.{◌≡◌, ◌≢◌, ◌∙◌, sym, arith}
use Rattle.std.proofs.lemmas.Bool.Decides.{nat_tests}
use Rattle.pawn_list_keeper.proofs.kept.place_of_book.Goals as goal

pub returns-then-eq-clause-some : goal.returns-then-eq-clause-some
returns-then-eq-clause-some c =
    let named : c.index-books-place.result.number ≡ c.args.book = grind (arith, nat_tests, sym c.eq.ensures ∙ c.if-eq.true) in
    found_place c.args.books.now c.args.book c.loop-place.place c.index-books-place.result c.loop-place-test.true c.index-books-place.is named
    c.loop-place.invariant.1

pub loop-place-preserved : goal.loop-place-preserved
loop-place-preserved c =
    let other : c.index-books-place.result.number ≢ c.args.book = grind (arith, nat_tests, sym c.eq.ensures ∙ c.if-eq.false) in (
      next_book c.args.books.now c.args.book c.loop-place.place c.index-books-place.result c.loop-place-test.true c.index-books-place.is other
          c.loop-place.invariant.0,
      next_place c.args.books.now c.args.book c.loop-place.place c.index-books-place.result c.loop-place-test.true c.index-books-place.is other
          c.loop-place.invariant.1,
    )
