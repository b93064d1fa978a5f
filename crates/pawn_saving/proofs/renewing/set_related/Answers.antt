use Rattle.one_table.proofs.Parts.{on_ok}
use Rattle.pawn_debt.specs.Kept.{totals_of}
use Rattle.pawn_saving.proofs.PledgePartWrites.{related_set}
use Rattle.pawn_saving.proofs.RowsInOrder.{of_three, is_carried}
use Rattle.pawn_saving.proofs.Writing.{◌∷◌, state, with_rows, bookings_tree, pledges_tree, totals_tree}
use Rattle.pawn_saving.specs.Putting.{row_under, totals_under}
use Rattle.pawn_tables.specs.Common.{debt_of}
use Rattle.pawn_saving.proofs.renewing.set_related.Goals as goal

pub returns-clause-wrote : goal.returns-clause-wrote
returns-clause-wrote g c before agreed booked clean within listed others related l = let b = c.args.book in
    let n = c.args.number in let p = c.args.pledge.now in
    let at = of_three (is_carried _ _ _ c.in_ok-set_row.ensures.lent.leaves)
    (is_carried _ _ _ c.in_ok-set_totals.ensures.lent.leaves) c.put_any_booking.ensures.carried.leaves clean within in
    let first = c.in_ok-set_row.ensures.wrote before agreed at.0 within listed (others pledges_tree) related.row l in
    let second = rw c.totals.ensures.value at (c.in_ok-set_totals.ensures.wrote (totals_of (debt_of before)) at.2 at.1
    (with_rows listed pledges_tree (row_under b n p ∷ others pledges_tree)) (others totals_tree) related.totals first) in
    let both = with_rows (with_rows listed pledges_tree (row_under b n p ∷ others pledges_tree)) totals_tree (totals_under b n p ∷ others totals_tree) in
    let third = rw c.standing.ensures.value at (c.put_any_booking.ensures.wrote before.standing.booking) in
    on_ok c.put_any_booking.result _ _ (related_set (state g.S.Store c.put_any_booking.new.tx.conn.now).now listed b n p others)
    (third booked clean at.3 both (others bookings_tree) related.bookings related.no_booking second)
