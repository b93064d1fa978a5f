use Rattle.one_table.proofs.Parts.{on_ok}
use Rattle.pawn_saving.proofs.PledgePartWrites.{none_stands, now_stands, stood_before}
use Rattle.pawn_saving.proofs.Writing.{state, booking_cells, under, bookings_tree}
use Rattle.pawn_tables.specs.Common.{Booking}
use Rattle.pawn_saving.proofs.putting.put_any_booking.Goals as goal

pub returns-in-Some-clause-wrote : goal.returns-in-Some-clause-wrote
returns-in-Some-clause-wrote g c before none_before clean within listed others same none l =
    let row = λ (k : Booking). under c.args.book c.args.number (booking_cells k) in
    let wrote = c.put_booking.ensures.wrote before clean within listed others (stood_before row before (listed bookings_tree) others same) none l in
    on_ok c.put_booking.result _ _
    (now_stands row (state g.S.Store c.put_booking.new.tx.conn.now).now listed others c.args.booking c.in-Some.booking c.in-Some.is) wrote

pub returns-in-None-clause-wrote : goal.returns-in-None-clause-wrote
returns-in-None-clause-wrote g c before none_before clean within listed others same none l =
    none_stands (λ (k : Booking). under c.args.book c.args.number (booking_cells k))
    (state g.S.Store c.args.tx.now.conn.now).now listed others c.args.booking before c.in-None.is (none_before c.in-None.is) same l
