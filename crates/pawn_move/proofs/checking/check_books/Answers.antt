use Rattle.pawn_move.proofs.Checked.{none_walked, walk_ends, walk_fails, walk_on}
use Rattle.pawn_move.proofs.CheckedUpto.{AreOwedUpto, all_upto, none_checked, upto_next}
use Rattle.pawn_move.specs.Moving.{AreAllOwed, IsNextChecked}
use Rattle.pawn_opening.specs.Common.{state, Host}
use Rattle.pawn_tables.specs.Common.{get, HasUnsoundBook}
use Rattle.std.proofs.Common.{Err, None, Option, Some, false, refl, rules, ℕ, ◌∙◌, ◌≡◌}
use Rattle.pawn_move.proofs.checking.check_books.Goals as goal

pub loop-init : goal.loop-init
loop-init g c = (refl, none_walked (AreOwedUpto 0) (state g.S.Store c.args.tx.now.conn.now) none_checked)

pub returns-in_err-book-clause-checks : goal.returns-in_err-book-clause-checks
returns-in_err-book-clause-checks g c = let failed : c.from_residual.result ≡ Err c.in_err-book.field-0.0 = search rules in
    rw failed (walk_fails (AreOwedUpto c.loop.above) _ _ _ c.loop.invariant.1 false HasUnsoundBook c.in_err-book.field-0.0
    (λ h next. IsNextChecked h c.loop.above next) (λ h done. get h.books 0 ≡ None
    → AreAllOwed h) c.in_err-book.ensures.lent.leaves c.in_err-book.ensures.checks)

pub returns-in_default-clause-checks : goal.returns-in_default-clause-checks
returns-in_default-clause-checks g c = let R : Host → Option ℕ → Type 0 = λ h next. IsNextChecked h c.loop.above next in
    let none : c.in_ok-book.field-0 ≡ None = search rules in
    walk_ends (AreOwedUpto c.loop.above) _ _ _ c.loop.invariant.1 HasUnsoundBook HasUnsoundBook None R (λ h. get h.books 0 ≡ None → AreAllOwed h)
    (all_upto c.loop.above) c.in_ok-book.ensures.lent.leaves (rw none at c.in_ok-book.ensures.checks)

pub loop-preserved : goal.loop-preserved
loop-preserved g c = let R : Host → Option ℕ → Type 0 = λ h next. IsNextChecked h c.loop.above next in (
  c.check_next.ensures.lent.same_reference ∙ c.loop.invariant.0,
  rw c.get-above.ensures.value (walk_on (AreOwedUpto c.loop.above) _ _ _ c.loop.invariant.1 HasUnsoundBook (Some c.in-Some.book) R (AreOwedUpto
      c.in-Some.book) (upto_next c.loop.above c.in-Some.book) c.in_ok-book.ensures.lent.leaves (rw c.in-Some.is at c.in_ok-book.ensures.checks)),
)
