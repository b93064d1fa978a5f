use Rattle.one_table.proofs.Parts.{on_ok}
use Rattle.pawn_saving.proofs.Basics.{IsPermutation-refl}
use Rattle.pawn_saving.proofs.PledgePartWrites.{related_put}
use Rattle.pawn_saving.proofs.RowsInOrder.{of_three, is_carried}
use Rattle.pawn_saving.proofs.Writing.{None, refl, ◌∷◌, state, with_rows, bookings_tree, pledges_tree, totals_tree}
use Rattle.pawn_saving.specs.Putting.{row_under, totals_under}
use Rattle.pawn_saving.proofs.putting.put_related.Goals as goal

pub returns-clause-wrote : goal.returns-clause-wrote
returns-clause-wrote g c clean within listed none l = let b = c.args.book in
    let n = c.args.number in let p = c.args.pledge.now in
    let at = of_three (is_carried _ _ _ c.in_ok-put_row.ensures.lent.leaves)
    (is_carried _ _ _ c.in_ok-put_totals.ensures.lent.leaves) c.put_any_booking.ensures.carried.leaves clean within in
    let first = c.in_ok-put_row.ensures.wrote at.0 within listed l in
    let second =
    rw c.totals.ensures.value at (c.in_ok-put_totals.ensures.wrote at.2 at.1 (with_rows listed pledges_tree (row_under b n p ∷ listed pledges_tree)) first) in
    let both = with_rows (with_rows listed pledges_tree (row_under b n p ∷ listed pledges_tree)) totals_tree (totals_under b n p ∷ listed totals_tree) in
    let third = rw c.standing.ensures.value at
    (c.put_any_booking.ensures.wrote None (λ is. refl) clean at.3 both (listed bookings_tree) (IsPermutation-refl (listed bookings_tree)) none second) in
    on_ok c.put_any_booking.result _ _ (related_put (state g.S.Store c.put_any_booking.new.tx.conn.now).now listed b n p) third
