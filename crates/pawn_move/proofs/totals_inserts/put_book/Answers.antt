use Rattle.pawn_move.proofs.Basics.{carried_then, lent_then}
use Rattle.pawn_move.proofs.Filled.{all_filled, none_found, none_put, one_filled, one_unfilled, put_stands}
use Rattle.pawn_move.specs.Moving.{AreOwedIn, AreTotalsAt, totals_of_book}
use Rattle.pawn_opening.specs.Common.{state}
use Rattle.std.proofs.Common.{Err, None, false, refl, rules, true, ◌+◌, ◌∙◌, ◌≡◌}
use Rattle.pawn_move.proofs.totals_inserts.put_book.Goals as goal

pub returns-in_err-totals-clause-puts : goal.returns-in_err-totals-clause-puts
returns-in_err-totals-clause-puts g c = let failed : c.from_residual.result ≡ Err c.in_err-totals.field-0.0 = search rules in
    rw failed (one_unfilled c.args.book c.loop-place.place (c.loop-place.place + 1) refl _ _ _ c.loop-place.invariant.1 false c.in_err-totals.field-0.0
    (λ h done. totals_of_book h c.args.book) (λ h done. AreOwedIn h c.args.book) c.in_err-totals.ensures.lent.leaves (none_found c.args.book (c.loop-place.place
    + 1) _ _ c.in_err-totals.field-0.0 (λ h totals. AreTotalsAt h c.args.book (c.loop-place.place + 1) totals) c.in_err-totals.ensures.finds))

pub returns-in_default-clause-puts : goal.returns-in_default-clause-puts
returns-in_default-clause-puts g c = let none : c.in_ok-totals.field-0 ≡ None = search rules in
    all_filled c.args.book c.loop-place.place (c.loop-place.place + 1) refl _ _ _ c.loop-place.invariant.1 c.in_ok-totals.ensures.lent.leaves
    (rw none at c.in_ok-totals.ensures.finds)

pub returns-in-Err-clause-puts : goal.returns-in-Err-clause-puts
returns-in-Err-clause-puts g c =
    one_unfilled c.args.book c.loop-place.place (c.loop-place.place + 1) refl _ _ _ c.loop-place.invariant.1 false c.unwritten.result
    (λ h done. totals_of_book h c.args.book) (λ h done. AreOwedIn h c.args.book)
    (lent_then _ _ _ false c.in_ok-totals.ensures.lent.leaves c.in-Err.ensures.lent.leaves) (none_put c.args.book (c.loop-place.place + 1)
    (state g.S.Store c.loop-place.tx.conn.now) (state g.S.Store c.put_totals.new.tx.conn.now) c.unwritten.result c.unwritten.ensures.no_row)

pub returns-in-Err-clause-carried : goal.returns-in-Err-clause-carried
returns-in-Err-clause-carried g c = record {
  same_reference = c.put_totals.ensures.lent.same_reference ∙ c.totals_for.ensures.lent.same_reference ∙ c.loop-place.invariant.0;
  leaves = carried_then _ _ _ false c.loop-place.invariant.1.carried (lent_then _ _ _ false c.in_ok-totals.ensures.lent.leaves c.in-Err.ensures.lent.leaves);
}

pub loop-place-preserved : goal.loop-place-preserved
loop-place-preserved g c = (
  c.put_totals.ensures.lent.same_reference ∙ c.totals_for.ensures.lent.same_reference ∙ c.loop-place.invariant.0,
  one_filled c.args.book c.loop-place.place (c.loop-place.place + 1) refl _ _ _ c.loop-place.invariant.1
      (lent_then _ _ _ true c.in_ok-totals.ensures.lent.leaves c.in-Ok.ensures.lent.leaves) (put_stands _ _ _ c.args.book (c.loop-place.place + 1)
      c.in-Some.totals c.in_ok-totals.ensures.lent.leaves c.in-Ok.ensures.lent.leaves (rw c.in-Some.is at c.in_ok-totals.ensures.finds) c.in-Ok.ensures.wrote
      c.in-Ok.ensures.schema),
)

pub loop-place-init : goal.loop-place-init
loop-place-init g c = search rules
