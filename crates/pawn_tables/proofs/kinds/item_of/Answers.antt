use Rattle.pawn_tables.proofs.ItemReads.{booking_read, entry_read, extension_read, own_read, secret_read}
use Rattle.pawn_tables.proofs.kinds.item_of.Goals as goal

pub returns-in-Pledge : goal.returns-in-Pledge
returns-in-Pledge c = record { read = rw c.in-Pledge.is (own_read c.args.number c.args.row.now _ c.own_item.ensures.read) }

pub returns-in-Secret : goal.returns-in-Secret
returns-in-Secret c = record { read = rw c.in-Secret.is (secret_read c.args.number c.args.row.now _ c.secret_item.ensures.read) }

pub returns-in-Entry : goal.returns-in-Entry
returns-in-Entry c = record { read = rw c.in-Entry.is (entry_read c.args.number c.args.row.now _ c.entry_item.ensures.read) }

pub returns-in-Extension : goal.returns-in-Extension
returns-in-Extension c = record { read = rw c.in-Extension.is (extension_read c.args.number c.args.row.now _ c.extension_item.ensures.read) }

pub returns-in-Booking : goal.returns-in-Booking
returns-in-Booking c = record { read = rw c.in-Booking.is (booking_read c.args.number c.args.row.now _ c.booking_item.ensures.read) }
