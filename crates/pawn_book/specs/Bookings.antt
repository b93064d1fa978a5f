-- Bookings of a book's windows.
use Rattle.pawn_book.specs.Common.{Booking, PledgeValue}
use Rattle.pawn_pledge.specs.declared.record.BookingState.{BookingState}
use Rattle.std.specs.Prelude.{ℕ, List, Bool, true, false, ◌&&◌, Option, Some, None, ◌==◌, count_by}

-- the booking is confirmed
abbrev pub is_confirmed : BookingState → Bool
is_confirmed BookingState.Asked = false
is_confirmed BookingState.Confirmed = true
is_confirmed BookingState.Refused = false
is_confirmed BookingState.Cancelled = false

-- the booking is asked for
abbrev pub is_asked : BookingState → Bool
is_asked BookingState.Asked = true
is_asked BookingState.Confirmed = false
is_asked BookingState.Refused = false
is_asked BookingState.Cancelled = false

-- the booking is confirmed, and for this day and window
abbrev pub is_confirmed_for : ℕ → ℕ → Option Booking → Bool
is_confirmed_for day window None = false
is_confirmed_for day window (Some booking) = (booking.day == day) && (booking.window == window) && is_confirmed booking.state

-- how many pledges have a confirmed booking for a day and a window
abbrev pub confirmed_count : List PledgeValue → ℕ → ℕ → ℕ
confirmed_count pledges day window = count_by (λ p. is_confirmed_for day window p.standing.booking) pledges
