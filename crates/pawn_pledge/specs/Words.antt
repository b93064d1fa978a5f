-- Definitions for the rules of commands: tests on a pledge, and a pledge with one part changed.
use Rattle.pawn_pledge.specs.Common.{Draw, Entry, Repay, Sort}
use Rattle.pawn_pledge.specs.Pledge.{PledgeValue}
use Rattle.pawn_pledge.specs.declared.command.Paper.{Paper}
use Rattle.pawn_pledge.specs.declared.record.Booking.{Booking}
use Rattle.pawn_pledge.specs.declared.record.BookingState.{BookingState}
use Rattle.pawn_pledge.specs.declared.record.Closing.{Closing}
use Rattle.pawn_pledge.specs.declared.record.Extension.{Extension}
use Rattle.pawn_pledge.specs.declared.record.Issue.{Issue}
use Rattle.pawn_pledge.specs.declared.record.Issued.{Issued}
use Rattle.pawn_pledge.specs.declared.record.Standing.{Standing}
use Rattle.std.specs.Prelude.{ℕ, ◌+◌, nat_lt, ◌==◌, ◌&&◌, ◌||◌, not, Bool, true, false, [], ◌∷◌, ◌++◌, length, Option}
use Rattle.std.specs.Prelude.{Some, None, List, codes}

-- the `Standing` of a pledge with its last change on the day x
abbrev pub with_last : Standing → ℕ → Standing
with_last s x = record s { last = x }

-- the same, and on hold or not
abbrev pub with_hold : Standing → Bool → ℕ → Standing
with_hold s flag x = record s { held = flag; last = x }

-- the same, with this booking
abbrev pub with_booking : Standing → Booking → ℕ → Standing
with_booking s booking x = record s { booking = Some booking; last = x }

-- the pledge with this `Standing` and the same lists
abbrev pub with_standing : PledgeValue → Standing → PledgeValue
with_standing p standing = record p { standing = standing }

-- the word for the state of a booking
abbrev pub state_text : BookingState → List ℕ
state_text BookingState.Asked = codes "asked"
state_text BookingState.Confirmed = codes "confirmed"
state_text BookingState.Refused = codes "refused"
state_text BookingState.Cancelled = codes "cancelled"

-- the pledge is neither redeemed nor sold
abbrev pub is_open : Closing → Bool
is_open Closing.Open = true
is_open closed = false

-- the kinds of entry are the same
abbrev pub same_sort : Sort → Sort → Bool
same_sort Draw Draw = true
same_sort Repay Repay = true
same_sort one other = false

-- the entry has this kind and sum, so that a request for it is a repeat
abbrev pub is_repeat : Entry → Sort → ℕ → Bool
is_repeat e sort pence = same_sort e.sort sort && (e.pence == pence)

-- the number of a new entry is 0, or above the next number
abbrev pub is_ahead : PledgeValue → ℕ → Bool
is_ahead p seq = (seq == 0) || nat_lt (length p.entries + 1) seq

-- the next entry
abbrev pub new_entry : PledgeValue → ℕ → Sort → ℕ → Entry
new_entry p x sort pence = record { seq = length p.entries + 1; day = x; sort = sort; pence = pence }

-- the flags are the same
abbrev pub same_flag : Bool → Bool → Bool
same_flag true flag = flag
same_flag false flag = not flag

-- the declaration is a written statement
abbrev pub is_written : Paper → Bool
is_written Paper.Sworn = false
is_written Paper.Written = true

-- the way in which a secret is issued on a declaration
abbrev pub issue_of : Paper → Issue
issue_of Paper.Sworn = Issue.Sworn
issue_of Paper.Written = Issue.Written

-- the pledge with one more secret
abbrev pub with_secret : PledgeValue → Issued → PledgeValue
with_secret p issued = record p { secrets = p.secrets ++ issued ∷ []; standing = with_last p.standing issued.day }

-- the same booking in another state
abbrev pub in_state : Booking → BookingState → Booking
in_state booking state = record { day = booking.day; window = booking.window; state = state }

-- the booking is active: asked for or confirmed
abbrev pub is_active : BookingState → Bool
is_active BookingState.Asked = true
is_active BookingState.Confirmed = true
is_active other = false

-- the booking is active, and for this day and window
abbrev pub is_asked_again : Booking → ℕ → ℕ → Bool
is_asked_again booking day window = (booking.day == day) && (booking.window == window) && is_active booking.state

-- the state of a booking after its pledge is closed: an active one is cancelled
abbrev pub after_closing : BookingState → BookingState
after_closing BookingState.Refused = BookingState.Refused
after_closing other = BookingState.Cancelled

-- the booking, if there is one, after its pledge is closed
abbrev pub booking_after : Option Booking → Option Booking
booking_after None = None
booking_after (Some booking) = Some (in_state booking (after_closing booking.state))

-- the `Standing` of a pledge that is closed on the day x
abbrev pub with_closing : Standing → Closing → ℕ → Standing
with_closing s closing x = record s { booking = booking_after s.booking; last = x; closing = closing }

-- the pledge closed on the day x
abbrev pub close : PledgeValue → ℕ → Closing → PledgeValue
close p x closing = with_standing p (with_closing p.standing closing x)

-- the pledge with one more extension
abbrev pub with_extension : PledgeValue → Extension → PledgeValue
with_extension p e = record p { extensions = p.extensions ++ e ∷ []; standing = with_last p.standing e.day }
