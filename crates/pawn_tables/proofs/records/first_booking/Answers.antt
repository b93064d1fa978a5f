use Rattle.pawn_tables.proofs.RowReading.{[], arith, rules, IsDayNumber, first_err}
use Rattle.pawn_tables.specs.Common.{Booking}
use Rattle.pawn_tables.specs.Rows.{booking_cells}
use Rattle.pawn_tables.proofs.records.first_booking.Goals as goal

pub returns-in_err-booking_of : goal.returns-in_err-booking_of
returns-in_err-booking_of c = record {
  read = λ k are. let e = first_err booking_cells (λ (b : Booking). IsDayNumber b.day) c.args.rows.now c.row-item.result _ c.row-item.is
      (let some = c.in-len1-up.len_at_least in omega (arith, some)) (λ x is. c.in_err-booking_of.ensures.read x [] is) k are in search rules;
}
