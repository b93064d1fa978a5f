use Rattle.pawn_book.specs.declared.items.RowItem.{RowItem}
use Rattle.pawn_tables.proofs.RowReading.{rules, read_other}
use Rattle.pawn_tables.proofs.kinds.booking_item.Goals as goal

pub returns-in_err-booking : goal.returns-in_err-booking
returns-in_err-booking c = record {
  read = λ k more is. let r = read_other _ k (RowItem.Booking c.args.number k) _ _ (λ told. told) (c.in_err-booking.ensures.read k more is) in search rules;
}
