use Rattle.pawn_move.proofs.Checked.{none_walked, walk_ends, walk_fails, walk_on}
use Rattle.pawn_move.proofs.CheckedUpto.{AreOwedTo, all_checked, checked_at, one_checked}
use Rattle.pawn_move.specs.Moving.{AreOwedIn, AreTotalsAt}
use Rattle.pawn_opening.specs.Common.{state, Host}
use Rattle.pawn_tables.specs.Common.{IsUnsoundAt, Totals}
use Rattle.std.proofs.Common.{Err, Option, false, is_some, refl, rules, true, ◌+◌, ◌∙◌, ◌≡◌}
use Rattle.pawn_move.proofs.checking.check_book.Goals as goal

pub loop-place-init : goal.loop-place-init
loop-place-init g c = (refl, none_walked (AreOwedTo c.args.book 0) (state g.S.Store c.args.tx.now.conn.now) (λ h. tt))

pub returns-in_err-totals-clause-checks : goal.returns-in_err-totals-clause-checks
returns-in_err-totals-clause-checks g c = let failed : c.from_residual.result ≡ Err c.in_err-totals.field-0.0 = search rules in
    rw failed (walk_fails (AreOwedTo c.args.book c.loop-place.place) _ _ _ c.loop-place.invariant.1 false (IsUnsoundAt c.args.book) c.in_err-totals.field-0.0
    (λ h totals. AreTotalsAt h c.args.book (c.loop-place.place + 1) totals)
    (λ h done. AreOwedIn h c.args.book) c.in_err-totals.ensures.lent.leaves c.in_err-totals.ensures.finds)

pub returns-then-is_none-clause-checks : goal.returns-then-is_none-clause-checks
returns-then-is_none-clause-checks g c = let R : Host → Option Totals → Type 0 = λ h totals. AreTotalsAt h c.args.book (c.loop-place.place + 1) totals in
    let none : is_some c.in_ok-totals.totals ≡ false = search rules in
    walk_ends (AreOwedTo c.args.book c.loop-place.place) _ _ _ c.loop-place.invariant.1 (IsUnsoundAt c.args.book) (IsUnsoundAt c.args.book)
    c.in_ok-totals.totals R (λ h. AreOwedIn h c.args.book) (λ h so_far are. all_checked c.args.book c.loop-place.place (c.loop-place.place + 1) refl h so_far
    (rw none at (checked_at h c.args.book (c.loop-place.place + 1) c.in_ok-totals.totals are))) c.in_ok-totals.ensures.lent.leaves c.in_ok-totals.ensures.finds

pub loop-place-preserved : goal.loop-place-preserved
loop-place-preserved g c = let R : Host → Option Totals → Type 0 = λ h totals. AreTotalsAt h c.args.book (c.loop-place.place + 1) totals in
    let some : is_some c.in_ok-totals.totals ≡ true = search rules in (
      c.totals_for.ensures.lent.same_reference ∙ c.loop-place.invariant.0,
      walk_on (AreOwedTo c.args.book c.loop-place.place) _ _ _ c.loop-place.invariant.1 (IsUnsoundAt c.args.book) c.in_ok-totals.totals R (AreOwedTo c.args.book
          (c.loop-place.place + 1)) (λ h so_far are. one_checked c.args.book c.loop-place.place (c.loop-place.place + 1) refl h so_far (rw some at
          (checked_at h c.args.book (c.loop-place.place + 1) c.in_ok-totals.totals are))) c.in_ok-totals.ensures.lent.leaves c.in_ok-totals.ensures.finds,
    )
