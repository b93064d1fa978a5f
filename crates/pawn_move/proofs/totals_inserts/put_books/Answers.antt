use Rattle.pawn_move.proofs.AllFilled.{all_books_filled, next_filled, next_unfilled, none_filled}
use Rattle.pawn_opening.specs.Common.{state}
use Rattle.std.proofs.Common.{Err, None, false, refl, rules, ◌∙◌, ◌≡◌}
use Rattle.pawn_move.proofs.totals_inserts.put_books.Goals as goal

pub loop-init : goal.loop-init
loop-init g c = (refl, none_filled (state g.S.Store c.args.tx.now.conn.now))

pub returns-in_err-book-clause-puts : goal.returns-in_err-book-clause-puts
returns-in_err-book-clause-puts g c = let failed : c.from_residual.result ≡ Err c.in_err-book.field-0.0 = search rules in
    rw failed (next_unfilled c.loop.above _ _ _ c.loop.invariant.1 false c.in_err-book.field-0.0 c.in_err-book.ensures.lent.leaves c.in_err-book.ensures.puts)

pub returns-in_default-clause-puts : goal.returns-in_default-clause-puts
returns-in_default-clause-puts g c = let none : c.in_ok-book.field-0 ≡ None = search rules in
    all_books_filled c.loop.above _ _ _ c.loop.invariant.1 c.in_ok-book.ensures.lent.leaves (rw none at c.in_ok-book.ensures.puts)

pub loop-preserved : goal.loop-preserved
loop-preserved g c = (
  c.put_next.ensures.lent.same_reference ∙ c.loop.invariant.0,
  rw c.get-above.ensures.value
      (next_filled c.loop.above _ _ _ c.loop.invariant.1 c.in-Some.book c.in_ok-book.ensures.lent.leaves (rw c.in-Some.is at c.in_ok-book.ensures.puts)),
)
