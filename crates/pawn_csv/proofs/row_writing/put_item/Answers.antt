use Rattle.pawn_csv.proofs.row_writing.put_item.Goals as goal

pub returns-in-Pledge : goal.returns-in-Pledge
returns-in-Pledge g c = record { puts = rw c.in-Pledge.is c.put_pledge.ensures.puts }

pub returns-in-Secret : goal.returns-in-Secret
returns-in-Secret g c = record { puts = rw c.in-Secret.is (rw (c.from.ensures, c.get.ensures.value) at c.put_secret.ensures.puts) }

pub returns-in-Entry : goal.returns-in-Entry
returns-in-Entry g c = record { puts = rw c.in-Entry.is (rw (c.from-in-Entry.ensures, c.get-in-Entry.ensures.value) at c.put_entry.ensures.puts) }

pub returns-in-Extension : goal.returns-in-Extension
returns-in-Extension g c =
    record { puts = rw c.in-Extension.is (rw (c.from-in-Extension.ensures, c.get-in-Extension.ensures.value) at c.put_extension.ensures.puts) }

pub returns-in-Booking : goal.returns-in-Booking
returns-in-Booking g c = record { puts = rw c.in-Booking.is (rw (c.from-in-Booking.ensures, c.get-in-Booking.ensures.value) at c.put_booking.ensures.puts) }
