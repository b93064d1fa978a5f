use Rattle.pawn_saving.proofs.StatementWrites.{booking_wrote, on_ran}
use Rattle.pawn_saving.proofs.Writing.{state}
use Rattle.pawn_saving.proofs.pledges.put_booking.Goals as goal

pub returns-clause-wrote : goal.returns-clause-wrote
returns-clause-wrote g c before clean within listed rest splits none st = let old = state g.S.Store c.args.tx.now.conn.now in
    let new = state g.S.Store c.write.new.tx.conn.now in
    on_ran c.write.result _ _
    (rw (c.params-to_sql.ensures, c.params-to_sql-2.ensures, c.params-to_sql-3.ensures, c.params-to_sql-4.ensures, c.params-to_sql-5.ensures) at
    (c.write.ensures.ran clean within)) (booking_wrote c.args.book c.args.number c.count-day.result c.in_ok-window.window c.state_number-state.result
    c.args.booking before old new listed rest c.count-day.ensures.value c.in_ok-window.ensures.value c.state_number-state.ensures.value st splits none)
