-- The sheet of a day: its confirmed bookings by window, the bookings that are asked for, the pledges whose period ends.
use Rattle.pawn_book.specs.Bookings.{is_asked, is_confirmed_for}
use Rattle.pawn_book.specs.Common.{Booking, PledgeValue, end_of, flat_map}
use Rattle.pawn_book.specs.declared.sheet.SheetPart.{SheetPart}
use Rattle.pawn_book.specs.declared.sheet.SheetItem.{SheetItem}
use Rattle.pawn_book.specs.declared.sheet.SheetItem.TheVariants.{Window, Confirmed, AskedHead, Asked, EndsHead, Ends}
use Rattle.pawn_pledge.specs.Limits.{last_window}
use Rattle.pawn_pledge.specs.Words.{is_open}
use Rattle.std.specs.Prelude.{ℕ, zero, suc, ◌+◌, List, [], ◌∷◌, ◌++◌, ◌&&◌, Option, Some, None, if◌then◌else◌, ◌==◌}
use Rattle.std.specs.Prelude.{length, filter_map}
use Rattle.pawn_book.specs.declared.sheet.SheetPart.TheVariants as part

-- the item of a booking, if it is asked for the day
abbrev pub asked_item : ℕ → ℕ → Option Booking → Option SheetItem
asked_item number day None = None
asked_item number day (Some booking) = if (booking.day == day) && is_asked booking.state then Some (Asked number booking.window) else None

-- The item that a part has for a pledge, if it has one: the pledge has a confirmed booking for the day and window; or
-- it has a booking that is asked for the day; or its period ends on the day, and it is neither redeemed nor sold.
abbrev pub part_item : SheetPart → ℕ → PledgeValue → Option SheetItem
part_item (part.Confirmed window) day p = if is_confirmed_for day window p.standing.booking then Some (Confirmed p.agreement.number) else None
part_item part.Asked day p = asked_item p.agreement.number day p.standing.booking
part_item part.Ends day p = if is_open p.standing.closing && (end_of p == day) then Some (Ends p.agreement.number) else None

-- the items that a part has for a book's pledges, in order
abbrev pub part_items : SheetPart → ℕ → List PledgeValue → List SheetItem
part_items part day pledges = filter_map (part_item part day) pledges

-- the first item of a part, with the number of items that follow it
abbrev pub part_head : SheetPart → ℕ → SheetItem
part_head (part.Confirmed window) count = Window window count
part_head part.Asked count = AskedHead count
part_head part.Ends count = EndsHead count

-- the items of a part after their head
abbrev pub with_head : SheetPart → List SheetItem → List SheetItem
with_head part items = part_head part (length items) ∷ items

-- the items of a window after their head, or nothing if the window has no items
abbrev pub window_items : SheetPart → List SheetItem → List SheetItem
window_items part [] = []
window_items part items = with_head part items

-- the windows below a number, in order
abbrev pub windows_below : ℕ → List ℕ
windows_below zero = []
windows_below (suc n) = windows_below n ++ n ∷ []

-- the windows of a day
abbrev pub windows : List ℕ
windows = windows_below (last_window + 1)

-- the items of one window
abbrev pub window_sheet : List PledgeValue → ℕ → ℕ → List SheetItem
window_sheet pledges day window = window_items (part.Confirmed window) (part_items (part.Confirmed window) day pledges)

-- the items of all windows of a day
abbrev pub windows_sheet : List PledgeValue → ℕ → List SheetItem
windows_sheet pledges day = flat_map (window_sheet pledges day) windows

-- a day's sheet: the confirmed bookings window by window, then the bookings that are asked for, then the pledges whose
-- period ends
abbrev pub day_sheet : List PledgeValue → ℕ → List SheetItem
day_sheet pledges day =
    windows_sheet pledges day
    ++ (with_head part.Asked (part_items part.Asked day pledges)
    ++ with_head part.Ends (part_items part.Ends day pledges))
