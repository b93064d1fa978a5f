-- Worked examples of statements and of their lines.
use Rattle.pawn_debt.specs.declared.entry.Kind.TheVariants.{Fixed, Running}
use Rattle.pawn_debt.specs.declared.entry.Sort.TheVariants.{Draw, Repay}
use Rattle.pawn_pledge.specs.Worked.{changed_by, large, ring, ring_pledge, small}
use Rattle.pawn_terms.specs.Terms.{rates_of}
use Rattle.pawn_view.specs.Common.{Command, Open, PledgeValue, Redeemed, Sold, date}
use Rattle.pawn_view.specs.Text.{money, date_text, kind_line, extended_line, held_line, booking_line, closing_line}
use Rattle.pawn_view.specs.Text.{entry_line, statement_text, presented_text}
use Rattle.std.specs.Prelude.{◌≡◌, false, true, [], ◌∷◌, Some, None, codes, List, ℕ, ◌+◌, ◌++◌}
use Rattle.pawn_pledge.specs.declared.record.BookingState.TheVariants as state

-- pounds, and two digits of pence
abbrev pub WorkedAmounts : Type 0
WorkedAmounts =
    (money 0 ≡ codes "0.00")
    × (money 5 ≡ codes "0.05")
    × (money 10 ≡ codes "0.10")
    × (money 99 ≡ codes "0.99")
    × (money 100 ≡ codes "1.00")
    × (money 10800 ≡ codes "108.00")
    × (money 100000000 ≡ codes "1000000.00")

-- days
abbrev pub WorkedDays : Type 0
WorkedDays =
    (date_text (date 2000 1 1) ≡ codes "2000-01-01")
    × (date_text (date 2024 2 29) ≡ codes "2024-02-29")
    × (date_text (date 2199 12 31) ≡ codes "2199-12-31")

-- the line of each sort of entry, of an extension, and of a limit
abbrev pub WorkedLines : Type 0
WorkedLines =
    (entry_line (record { seq = 1; day = date 2024 1 31; sort = Repay; pence = 1005 }) ≡ codes "Entry 1 2024-01-31 repay 10.05\n")
    × (entry_line (record { seq = 10; day = date 2024 2 29; sort = Draw; pence = 100000000 }) ≡ codes "Entry 10 2024-02-29 draw 1000000.00\n")
    × (extended_line (record { day = date 2024 7 1; until = date 2024 9 30 }) ≡ codes "Extended 2024-07-01 to 2024-09-30\n")
    × (kind_line (Running 5) ≡ codes "Kind running 0.05\n")
    × (held_line true ≡ codes "Held yes\n")

-- the line of a booking
abbrev pub WorkedBookings : Type 0
WorkedBookings =
    (booking_line None ≡ codes "Booking none\n")
    × (booking_line (Some (record { day = date 2024 3 4; window = 0; state = state.Asked })) ≡ codes "Booking 2024-03-04 0 asked\n")
    × (booking_line (Some (record { day = date 2024 3 4; window = 15; state = state.Confirmed })) ≡ codes "Booking 2024-03-04 15 confirmed\n")
    × (booking_line (Some (record { day = date 2024 3 4; window = 3; state = state.Refused })) ≡ codes "Booking 2024-03-04 3 refused\n")
    × (booking_line (Some (record { day = date 2024 3 4; window = 3; state = state.Cancelled })) ≡ codes "Booking 2024-03-04 3 cancelled\n")

-- the line of a closed pledge on which 100 pounds were owed
abbrev pub WorkedClosings : Type 0
WorkedClosings =
    (closing_line Open 10000 ≡ [])
    × (closing_line (Redeemed (date 2024 8 1) 10000) 10000 ≡ codes "Redeemed 2024-08-01 paid 100.00\n")
    × (closing_line (Sold (date 2024 8 1) 9000) 10000 ≡ codes "Sold 2024-08-01 net 90.00 surplus 0.00 shortfall 10.00\n")
    × (closing_line (Sold (date 2024 8 1) 12345) 10000 ≡ codes "Sold 2024-08-01 net 123.45 surplus 23.45 shortfall 0.00\n")

-- the ring in pledge for 100 pounds, at interest of 2,667 millionths a day
abbrev pub ring_at_interest : PledgeValue
ring_at_interest = ring_pledge (Fixed 10000) false None (rates_of 2667 0 0)

-- how each statement of the ring begins, given the text of its sum
abbrev pub begun : List ℕ → List ℕ
begun sum = codes "Pledge 1\nArticle Gold ring\nKind fixed " ++ sum ++ codes "\nTaken 2024-01-31\nEnds 2024-07-31\nStatus "

-- the statement of the ring in pledge for a small credit, after it has passed to the broker
abbrev pub passed : List ℕ
passed = begun (codes "50.00") ++ codes "passed\nHeld no\nBooking none\n"

-- statements from the day taken on; they have no amounts after the ring has passed to the broker
abbrev pub WorkedStatements : Type 0
WorkedStatements =
    let inside = begun (codes "100.00") ++ codes "inside\nPrincipal 100.00\nCharges 0.00\nOwing 100.00\nHeld no\nBooking none\n" in
    (statement_text (date 2024 1 31) (ring 10000) ≡ inside)
    × (statement_text (date 2020 2 29) (ring 10000) ≡ inside)
    × (statement_text (date 2024 8 1) (ring small) ≡ passed)

-- statements of a ring at interest: ten pounds are repaid after thirty days; eight of them pay the charges
abbrev pub WorkedCharges : Type 0
WorkedCharges =
    (statement_text (date 2024 3 1) ring_at_interest
    ≡ begun (codes "100.00") ++ codes "inside\nPrincipal 100.00\nCharges 8.00\nOwing 108.00\nHeld no\nBooking none\n")
    × (statement_text (date 2024 3 1) (changed_by ring_at_interest (date 2024 3 1) (Command.Repay 1 1000))
    ≡ begun (codes "100.00") ++ codes "inside\nPrincipal 98.00\nCharges 0.00\nOwing 98.00\nHeld no\nBooking none\nEntry 1 2024-03-01 repay 10.00\n")

-- statements of a ring that was redeemed or sold, on any later day
abbrev pub WorkedEndings : Type 0
WorkedEndings =
    (statement_text (date 2025 1 1) (changed_by (ring large) (date 2024 8 1) (Command.Redeem large))
    ≡ begun (codes "500.00") ++ codes "redeemed\nPrincipal 500.00\nCharges 0.00\nOwing 500.00\nHeld no\nBooking none\nRedeemed 2024-08-01 paid 500.00\n")
    × (statement_text (date 2025 1 1) (changed_by (ring large) (date 2024 8 1) (Command.Sell (large + 2345)))
    ≡ begun (codes "500.00") ++ codes "sold\nPrincipal 500.00\nCharges 0.00\nOwing 500.00\nHeld no\nBooking none\n"
    ++ codes "Sold 2024-08-01 net 523.45 surplus 23.45 shortfall 0.00\n")

-- receipts: the line of an unknown one, and a blank line between two texts
abbrev pub WorkedPresented : Type 0
WorkedPresented =
    (presented_text (date 2024 8 1) (None ∷ Some (ring small) ∷ None ∷ [])
    ≡ codes "Unknown receipt\n\n" ++ passed ++ codes "\nUnknown receipt\n")
    × (presented_text (date 2024 8 1) (None ∷ []) ≡ codes "Unknown receipt\n")
