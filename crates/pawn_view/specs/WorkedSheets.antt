-- Worked examples of day's sheets.
use Rattle.pawn_pledge.specs.Worked.{changed_by, large, ring, ring_extended, small}
use Rattle.pawn_pledge.specs.declared.command.Decision.TheVariants.{Confirm}
use Rattle.pawn_pledge.specs.declared.record.Status.TheVariants.{Passed}
use Rattle.pawn_view.specs.Common.{Asked, AskedHead, Command, Confirmed, Ends, EndsHead, PledgeValue, Window, date}
use Rattle.pawn_view.specs.Common.{day_sheet, status_of}
use Rattle.pawn_view.specs.Sheets.{sheet_line, sheet_text}
use Rattle.std.specs.Prelude.{◌≡◌, ℕ, [], ◌∷◌, codes}

-- the same pledge under another number
abbrev pub numbered : ℕ → PledgeValue → PledgeValue
numbered number p = record p { agreement = record p.agreement { number = number } }

-- a ring whose bearer asked for a visit on 2024-03-04 in a window, and the same ring after the broker confirmed it
abbrev pub asked_for : ℕ → PledgeValue
asked_for window = changed_by (ring large) (date 2024 3 1) (Command.AskBooking (date 2024 3 4) window)

abbrev pub confirmed_for : ℕ → PledgeValue
confirmed_for window = changed_by (asked_for window) (date 2024 3 1) (Command.DecideBooking Confirm)

-- the line of each kind of item
abbrev pub WorkedSheetLines : Type 0
WorkedSheetLines =
    (sheet_line 1000 (Window 15 12) ≡ codes "Window 15 confirmed 12 of 1000\n")
    × (sheet_line 2 (Confirmed 7) ≡ codes "Pledge 7\n")
    × (sheet_line 2 (AskedHead 0) ≡ codes "Asked 0\n")
    × (sheet_line 2 (Asked 12 0) ≡ codes "Pledge 12 window 0\n")
    × (sheet_line 2 (EndsHead 3) ≡ codes "Ends 3\n")
    × (sheet_line 2 (Ends 1000000) ≡ codes "Pledge 1000000\n")

-- two bearers asked for a window in which one visit is allowed, and the first was confirmed; the sheet of another day
-- lists neither
abbrev pub WorkedSheets : Type 0
WorkedSheets =
    let pledges = confirmed_for 3 ∷ numbered 2 (asked_for 3) ∷ [] in
    (sheet_text (date 2024 3 4) 1 (day_sheet pledges (date 2024 3 4))
    ≡ codes "Day sheet 2024-03-04\nWindow 3 confirmed 1 of 1\nPledge 1\nAsked 1\nPledge 2 window 3\nEnds 0\n")
    × (sheet_text (date 2024 3 5) 1 (day_sheet pledges (date 2024 3 5)) ≡ codes "Day sheet 2024-03-05\nAsked 0\nEnds 0\n")

-- windows are in ascending order, and in each window the pledges are in order of number
abbrev pub WorkedWindows : Type 0
WorkedWindows =
    day_sheet (confirmed_for 15 ∷ numbered 2 (confirmed_for 0) ∷ numbered 3 (confirmed_for 15) ∷ numbered 4 (asked_for 15) ∷ numbered 5 (asked_for 0) ∷ [])
    (date 2024 3 4)
    ≡ Window 0 1 ∷ Confirmed 2 ∷ Window 15 2 ∷ Confirmed 1 ∷ Confirmed 3 ∷ AskedHead 2 ∷ Asked 4 15 ∷ Asked 5 0 ∷ EndsHead 0 ∷ []

-- pledges whose period ends on the day: a ring that passes then, and an extended ring, on its later end only; no pledge
-- that was redeemed or sold
abbrev pub WorkedSheetEnds : Type 0
WorkedSheetEnds =
    let redeemed = changed_by (ring large) (date 2024 7 31) (Command.Redeem large) in
    let sold = changed_by (ring large) (date 2024 8 1) (Command.Sell 9000) in
    let pledges = ring small ∷ numbered 2 ring_extended ∷ numbered 3 redeemed ∷ numbered 4 sold ∷ numbered 5 (ring large) ∷ [] in
    (status_of (ring small) (date 2024 8 1) ≡ Passed)
    × (day_sheet pledges (date 2024 7 31) ≡ AskedHead 0 ∷ EndsHead 2 ∷ Ends 1 ∷ Ends 5 ∷ [])
    × (day_sheet pledges (date 2024 9 30) ≡ AskedHead 0 ∷ EndsHead 1 ∷ Ends 2 ∷ [])
