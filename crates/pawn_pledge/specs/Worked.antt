-- Worked examples of pledges.
use Rattle.pawn_debt.specs.Worked.{free}
use Rattle.pawn_debt.specs.declared.entry.Kind.{Kind}
use Rattle.pawn_debt.specs.declared.entry.Kind.TheVariants.{Fixed, Running}
use Rattle.pawn_pledge.specs.Common.{BadAmount, Draw, EarlierDay, FixedSum, OverLimit, OverOwing, Rates, Repay, Sort}
use Rattle.pawn_pledge.specs.Common.{rates_of}
use Rattle.pawn_pledge.specs.Limits.{small_credit}
use Rattle.pawn_pledge.specs.Pledge.{PledgeValue, end_of, status_of, live_of}
use Rattle.pawn_pledge.specs.Step.{Answered, pledge_start, pledge_step, pledge_after, reply_of}
use Rattle.pawn_pledge.specs.declared.command.Command.{Command}
use Rattle.pawn_pledge.specs.declared.command.Decision.TheVariants.{Confirm, Refuse}
use Rattle.pawn_pledge.specs.declared.command.Done.{Done}
use Rattle.pawn_pledge.specs.declared.command.Paper.{Paper}
use Rattle.pawn_pledge.specs.declared.command.Stamp.{Stamp}
use Rattle.pawn_pledge.specs.declared.record.BookingState.{BookingState}
use Rattle.pawn_pledge.specs.declared.record.BookingState.TheVariants.{Asked, Confirmed, Refused, Cancelled}
use Rattle.pawn_pledge.specs.declared.record.Closing.{Closing}
use Rattle.pawn_pledge.specs.declared.record.Issue.{Issue}
use Rattle.pawn_pledge.specs.declared.record.Opening.{Opening}
use Rattle.pawn_pledge.specs.declared.record.Status.{Status}
use Rattle.pawn_pledge.specs.declared.refusal.Refusal.{Refusal}
use Rattle.pawn_terms.specs.Worked.{date}
use Rattle.std.specs.List.{repeat}
use Rattle.std.specs.Prelude.{◌≡◌, ◌+◌, ◌-◌, ℕ, true, false, Bool, [], ◌∷◌, Option, Some, None, Result, Ok, Err, codes}

-- the opening for a ring
abbrev pub ring_opening : Kind → Bool → Option ℕ → Opening
ring_opening kind five_days agreed =
    record { reference = codes "A1"; article = codes "Gold ring"; kind = kind; agreed = agreed; five_days = five_days }

-- the ring as it was taken in pledge on 2024-01-31, with the secret 1
abbrev pub ring_pledge : Kind → Bool → Option ℕ → Rates → PledgeValue
ring_pledge kind five_days agreed terms = record {
  agreement = record {
    number = 1;
    opening = ring_opening kind five_days agreed;
    taken = date 2024 1 31;
    version = 1;
    terms = terms;
  };
  entries = [];
  secrets = record { day = date 2024 1 31; sort = Issue.Opening; secret = 1 } ∷ [];
  extensions = [];
  standing = record { held = false; booking = None; last = date 2024 1 31; closing = Closing.Open };
}

-- a small credit and a large one, in pence; the figure of small credits may become another one between them
abbrev pub small : ℕ
small = 5000

abbrev pub large : ℕ
large = 50000

-- the ring for a fixed sum, without charges, an agreed end or the five days
abbrev pub ring : ℕ → PledgeValue
ring pence = ring_pledge (Fixed pence) false None free

-- the same with the five days
abbrev pub ring_with_grace : ℕ → PledgeValue
ring_with_grace pence = ring_pledge (Fixed pence) true None free

-- the ring on a running account, without charges, an agreed end or the five days
abbrev pub ring_on_account : ℕ → PledgeValue
ring_on_account limit = ring_pledge (Running limit) false None free

-- the stamp of a day, with the word 9
abbrev pub on : ℕ → Stamp
on day = record { day = day; word = 9 }

-- the answer to a command on a day
abbrev pub answer_on : PledgeValue → ℕ → Command → Result Done Refusal
answer_on p day command = reply_of (pledge_step p (on day) command)

-- the pledge after a command on a day
abbrev pub changed_by : PledgeValue → ℕ → Command → PledgeValue
changed_by p day command = pledge_after p (pledge_step p (on day) command)

-- the answer to a drawing or a repayment
abbrev pub entry_answer : ℕ → ℕ → Sort → ℕ → Done
entry_answer seq day sort pence = Done.Entered (record { seq = seq; day = day; sort = sort; pence = pence })

-- a new pledge has a sum or limit within the limits, and its first secret is live
abbrev pub WorkedPledgeStarts : Type 0
WorkedPledgeStarts =
    (pledge_start 1 (ring_opening (Fixed large) false None) 1 free (record { day = date 2024 1 31; word = 1 }) ≡ Ok (ring large))
    × (live_of (ring large) ≡ Some 1)
    × (pledge_start 1 (ring_opening (Fixed 0) false None) 1 free (on (date 2024 1 31)) ≡ Err (Refusal.Debt BadAmount))
    × (pledge_start 1 (ring_opening (Running 100000001) false None) 1 free (on (date 2024 1 31)) ≡ Err (Refusal.Debt BadAmount))

-- a pledge for a small credit and six months passes after the end of the period, or after the five days if they apply
abbrev pub WorkedStatuses : Type 0
WorkedStatuses =
    (status_of (ring small_credit) (date 2024 7 31) ≡ Status.Inside)
    × (status_of (ring small_credit) (date 2024 8 1) ≡ Status.Passed)
    × (status_of (ring (small_credit + 1)) (date 2024 8 1) ≡ Status.Realisable)
    × (status_of (ring_with_grace small_credit) (date 2024 8 5) ≡ Status.Grace)
    × (status_of (ring_with_grace small_credit) (date 2024 8 6) ≡ Status.Passed)
    × (status_of (ring_with_grace (small_credit + 1)) (date 2024 8 6) ≡ Status.Realisable)
    × (status_of (ring_pledge (Fixed small) false (Some (date 2024 8 1)) free) (date 2024 8 1) ≡ Status.Inside)
    × (status_of (ring_pledge (Fixed small) false (Some (date 2024 8 1)) free) (date 2024 8 2) ≡ Status.Realisable)

-- drawings are accepted in the period, on a running account, up to its limit
abbrev pub WorkedPledgeDrawings : Type 0
WorkedPledgeDrawings =
    let drawn = changed_by (ring_on_account small) (date 2024 1 31) (Command.Draw 1 3000) in
    (answer_on (ring_on_account small) (date 2024 1 31) (Command.Draw 1 3000) ≡ Ok (entry_answer 1 (date 2024 1 31) Draw 3000))
    × (answer_on drawn (date 2024 1 31) (Command.Draw 2 2001) ≡ Err (Refusal.Debt OverLimit))
    × (answer_on drawn (date 2024 7 31) (Command.Draw 2 2000) ≡ Ok (entry_answer 2 (date 2024 7 31) Draw 2000))
    × (answer_on drawn (date 2024 8 1) (Command.Draw 2 2000) ≡ Err Refusal.Passed)
    × (answer_on (ring_on_account large) (date 2024 8 1) (Command.Draw 1 1) ≡ Err Refusal.PeriodOver)
    × (answer_on (ring large) (date 2024 1 31) (Command.Draw 1 1) ≡ Err (Refusal.Debt FixedSum))
    × (answer_on (ring large) (date 2024 8 1) (Command.Draw 1 1) ≡ Err Refusal.PeriodOver)

-- a repayment, and the same number sent again on any day
abbrev pub WorkedPledgeRepayments : Type 0
WorkedPledgeRepayments =
    let repaid = changed_by (ring large) (date 2024 2 29) (Command.Repay 1 1000) in
    let first = entry_answer 1 (date 2024 2 29) Repay 1000 in
    (answer_on (ring large) (date 2024 2 29) (Command.Repay 1 1000) ≡ Ok first)
    × (pledge_step repaid (on (date 2024 2 1)) (Command.Repay 1 1000) ≡ Answered first)
    × (pledge_step (changed_by repaid (date 2024 3 1) (Command.Redeem (large - 1000))) (on (date 2025 1 1)) (Command.Repay 1 1000) ≡ Answered first)
    × (answer_on repaid (date 2024 2 1) (Command.Repay 1 999) ≡ Err Refusal.SeqTaken)
    × (answer_on repaid (date 2024 2 1) (Command.Draw 1 1000) ≡ Err Refusal.SeqTaken)
    × (answer_on repaid (date 2024 2 1) (Command.Repay 3 1000) ≡ Err Refusal.SeqAhead)
    × (answer_on repaid (date 2024 2 29) (Command.Repay 0 1000) ≡ Err Refusal.SeqAhead)
    × (answer_on repaid (date 2024 2 28) (Command.Repay 2 1000) ≡ Err (Refusal.Debt EarlierDay))
    × (answer_on repaid (date 2024 2 29) (Command.Repay 2 0) ≡ Err (Refusal.Debt BadAmount))
    × (answer_on repaid (date 2024 2 29) (Command.Repay 2 (large - 999)) ≡ Err (Refusal.Debt (OverOwing (large - 1000))))
    × (answer_on (ring small) (date 2024 8 1) (Command.Repay 1 1000) ≡ Err Refusal.Passed)
    × (answer_on (ring_with_grace small) (date 2024 8 5) (Command.Repay 1 1000) ≡ Ok (entry_answer 1 (date 2024 8 5) Repay 1000))
    × (answer_on (ring_with_grace small) (date 2024 8 6) (Command.Repay 1 1000) ≡ Err Refusal.Passed)

-- a pledge on hold cannot be redeemed until it is released
abbrev pub WorkedHolds : Type 0
WorkedHolds =
    let held = changed_by (ring small) (date 2024 2 1) Command.Hold in
    (answer_on (ring small) (date 2024 2 1) Command.Hold ≡ Ok (Done.Held true))
    × (pledge_step held (on (date 2024 2 2)) Command.Hold ≡ Answered (Done.Held true))
    × (answer_on held (date 2024 2 2) (Command.Redeem small) ≡ Err Refusal.Held)
    × (answer_on held (date 2024 2 2) Command.Release ≡ Ok (Done.Held false))
    × (answer_on (changed_by held (date 2024 2 2) Command.Release) (date 2024 2 2) (Command.Redeem small) ≡ Ok (Done.Redeemed (date 2024 2 2) small))
    × (pledge_step (ring small) (on (date 2024 2 1)) Command.Release ≡ Answered (Done.Held false))
    × (answer_on held (date 2024 1 31) Command.Release ≡ Err (Refusal.Debt EarlierDay))
    × (answer_on held (date 2024 8 1) Command.Release ≡ Err Refusal.Passed)

-- the secret of a declaration replaces the live one; a written statement is accepted for a small credit only
abbrev pub WorkedDeclarations : Type 0
WorkedDeclarations =
    let many = record (ring small) { secrets = repeat 101 (record { day = date 2024 1 31; sort = Issue.Sworn; secret = 1 } ∷ []) } in
    (answer_on (ring (small_credit + 1)) (date 2024 3 2) (Command.Declare Paper.Sworn) ≡ Ok (Done.Declared 9))
    × (live_of (changed_by (ring (small_credit + 1)) (date 2024 3 2) (Command.Declare Paper.Sworn)) ≡ Some 9)
    × (answer_on (ring (small_credit + 1)) (date 2024 3 2) (Command.Declare Paper.Written) ≡ Err Refusal.NotSmall)
    × (answer_on (ring small_credit) (date 2024 3 2) (Command.Declare Paper.Written) ≡ Ok (Done.Declared 9))
    × (answer_on (changed_by (ring small) (date 2024 3 2) (Command.Declare Paper.Sworn)) (date 2024 3 2) (Command.Declare Paper.Sworn) ≡ Err Refusal.SecretUsed)
    × (reply_of (pledge_step (ring small) (record { day = date 2024 3 2; word = 1 }) (Command.Declare Paper.Sworn)) ≡ Err Refusal.SecretUsed)
    × (reply_of (pledge_step (changed_by (ring small) (date 2024 3 2) (Command.Declare Paper.Sworn)) (record { day = date 2024 3 2; word = 1 })
    (Command.Declare Paper.Sworn)) ≡ Err Refusal.SecretUsed)
    × (answer_on many (date 2024 3 2) (Command.Declare Paper.Sworn) ≡ Err Refusal.DeclarationsFull)
    × (answer_on (changed_by (changed_by (ring small) (date 2024 2 1) Command.Hold) (date 2024 2 1) (Command.Declare Paper.Sworn)) (date 2024 2 1)
    (Command.Redeem small) ≡ Err Refusal.Held)

-- the answer to a command on a booking
abbrev pub booking_answer : ℕ → ℕ → BookingState → Done
booking_answer day window state = Done.Booked (record { day = day; window = window; state = state })

-- the ring after a booking for 2024-03-04 was asked for
abbrev pub ring_asked_for : PledgeValue
ring_asked_for = changed_by (ring large) (date 2024 3 1) (Command.AskBooking (date 2024 3 4) 3)

-- the ring after that booking was confirmed
abbrev pub ring_confirmed : PledgeValue
ring_confirmed = changed_by ring_asked_for (date 2024 3 1) (Command.DecideBooking Confirm)

-- a booking is accepted for a window of a day that is not over, and on which the property will not have passed
abbrev pub WorkedAskings : Type 0
WorkedAskings =
    (answer_on (ring large) (date 2024 3 1) (Command.AskBooking (date 2024 3 4) 3) ≡ Ok (booking_answer (date 2024 3 4) 3 Asked))
    × (answer_on (ring large) (date 2024 3 1) (Command.AskBooking (date 2024 3 1) 15) ≡ Ok (booking_answer (date 2024 3 1) 15 Asked))
    × (answer_on (ring large) (date 2024 3 1) (Command.AskBooking (date 2024 2 29) 16) ≡ Err Refusal.BadWindow)
    × (answer_on (ring large) (date 2024 3 1) (Command.AskBooking (date 2024 2 29) 15) ≡ Err Refusal.BookingDay)
    × (answer_on (ring small) (date 2024 3 1) (Command.AskBooking (date 2024 7 31) 0) ≡ Ok (booking_answer (date 2024 7 31) 0 Asked))
    × (answer_on (ring small) (date 2024 3 1) (Command.AskBooking (date 2024 8 1) 0) ≡ Err Refusal.BookingDay)
    × (pledge_step ring_asked_for (on (date 2024 3 4)) (Command.AskBooking (date 2024 3 4) 3) ≡ Answered (booking_answer (date 2024 3 4) 3 Asked))
    × (pledge_step ring_confirmed (on (date 2024 3 2)) (Command.AskBooking (date 2024 3 4) 3) ≡ Answered (booking_answer (date 2024 3 4) 3 Confirmed))
    × (answer_on ring_confirmed (date 2024 3 2) (Command.AskBooking (date 2024 3 4) 4) ≡ Ok (booking_answer (date 2024 3 4) 4 Asked))
    × (answer_on ring_asked_for (date 2024 3 5) (Command.AskBooking (date 2024 3 4) 3) ≡ Err Refusal.BookingDay)

-- an active booking (asked for or confirmed) can be cancelled
abbrev pub WorkedCancellings : Type 0
WorkedCancellings =
    let cancelled = changed_by ring_confirmed (date 2024 3 5) Command.CancelBooking in
    let refused = changed_by ring_confirmed (date 2024 3 2) (Command.DecideBooking Refuse) in
    (answer_on (ring large) (date 2024 3 1) Command.CancelBooking ≡ Err Refusal.NoBooking)
    × (answer_on ring_asked_for (date 2024 3 1) Command.CancelBooking ≡ Ok (booking_answer (date 2024 3 4) 3 Cancelled))
    × (answer_on ring_confirmed (date 2024 3 5) Command.CancelBooking ≡ Ok (booking_answer (date 2024 3 4) 3 Cancelled))
    × (pledge_step cancelled (on (date 2024 3 6)) Command.CancelBooking ≡ Answered (booking_answer (date 2024 3 4) 3 Cancelled))
    × (answer_on refused (date 2024 3 2) Command.CancelBooking ≡ Err Refusal.NoBooking)

-- a booking that is asked for can be confirmed up to its day, and refused on any day
abbrev pub WorkedDecisions : Type 0
WorkedDecisions =
    let cancelled = changed_by ring_asked_for (date 2024 3 1) Command.CancelBooking in
    let refused = changed_by ring_asked_for (date 2024 3 1) (Command.DecideBooking Refuse) in
    (answer_on (ring large) (date 2024 3 1) (Command.DecideBooking Confirm) ≡ Err Refusal.NoBooking)
    × (answer_on (ring large) (date 2024 3 1) (Command.DecideBooking Refuse) ≡ Err Refusal.NoBooking)
    × (answer_on ring_asked_for (date 2024 3 4) (Command.DecideBooking Confirm) ≡ Ok (booking_answer (date 2024 3 4) 3 Confirmed))
    × (answer_on ring_asked_for (date 2024 3 5) (Command.DecideBooking Confirm) ≡ Err Refusal.BookingDay)
    × (pledge_step ring_confirmed (on (date 2024 3 5)) (Command.DecideBooking Confirm) ≡ Answered (booking_answer (date 2024 3 4) 3 Confirmed))
    × (answer_on ring_confirmed (date 2024 3 5) (Command.DecideBooking Refuse) ≡ Ok (booking_answer (date 2024 3 4) 3 Refused))
    × (pledge_step refused (on (date 2024 3 2)) (Command.DecideBooking Refuse) ≡ Answered (booking_answer (date 2024 3 4) 3 Refused))
    × (answer_on refused (date 2024 3 2) (Command.DecideBooking Confirm) ≡ Err Refusal.NoBooking)
    × (answer_on cancelled (date 2024 3 2) (Command.DecideBooking Confirm) ≡ Err Refusal.NoBooking)
    × (answer_on cancelled (date 2024 3 2) (Command.DecideBooking Refuse) ≡ Err Refusal.NoBooking)

-- a redemption pays exactly the sum owed, before the property passes; it spends the receipt and cancels the booking
abbrev pub WorkedRedemptions : Type 0
WorkedRedemptions =
    let redeemed = changed_by ring_confirmed (date 2024 3 4) (Command.Redeem large) in
    (answer_on (ring small) (date 2024 2 1) (Command.Redeem (small - 1)) ≡ Err (Refusal.WrongAmount small))
    × (answer_on (ring small) (date 2024 7 31) (Command.Redeem small) ≡ Ok (Done.Redeemed (date 2024 7 31) small))
    × (answer_on (ring small) (date 2024 8 1) (Command.Redeem small) ≡ Err Refusal.Passed)
    × (answer_on (ring large) (date 2024 8 1) (Command.Redeem large) ≡ Ok (Done.Redeemed (date 2024 8 1) large))
    × (answer_on (ring_with_grace small) (date 2024 8 5) (Command.Redeem small) ≡ Ok (Done.Redeemed (date 2024 8 5) small))
    × (answer_on (ring_with_grace small) (date 2024 8 6) (Command.Redeem small) ≡ Err Refusal.Passed)
    × (answer_on (ring_pledge (Fixed small) false (Some (date 2024 8 1)) free) (date 2024 8 2) (Command.Redeem small)
    ≡ Ok (Done.Redeemed (date 2024 8 2) small))
    × (live_of redeemed ≡ None)
    × (status_of redeemed (date 2024 8 1) ≡ Status.Redeemed)
    × (redeemed.standing.booking ≡ Some (record { day = date 2024 3 4; window = 3; state = Cancelled }))
    × (answer_on redeemed (date 2024 3 4) (Command.Redeem large) ≡ Err Refusal.Closed)
    × (answer_on redeemed (date 2024 3 3) (Command.Redeem large) ≡ Err (Refusal.Debt EarlierDay))

-- a realisable pledge can be sold, for more or less than the sum owed, even on hold; its receipt stays live
abbrev pub WorkedSales : Type 0
WorkedSales =
    let sold = changed_by (ring large) (date 2024 8 1) (Command.Sell 9000) in
    (answer_on (ring large) (date 2024 8 1) (Command.Sell (large - 1000)) ≡ Ok (Done.Sold (large - 1000) 0 1000))
    × (answer_on (ring large) (date 2024 8 1) (Command.Sell (large + 2345)) ≡ Ok (Done.Sold (large + 2345) 2345 0))
    × (answer_on (ring large) (date 2024 8 1) (Command.Sell 0) ≡ Ok (Done.Sold 0 0 large))
    × (answer_on (ring large) (date 2024 8 1) (Command.Sell 100000001) ≡ Err (Refusal.Debt BadAmount))
    × (answer_on (ring large) (date 2024 7 31) (Command.Sell 9000) ≡ Err Refusal.NotRealisable)
    × (answer_on (ring_with_grace large) (date 2024 8 5) (Command.Sell 9000) ≡ Err Refusal.NotRealisable)
    × (answer_on (ring small) (date 2024 8 1) (Command.Sell 9000) ≡ Err Refusal.Passed)
    × (answer_on (changed_by (ring large) (date 2024 2 1) Command.Hold) (date 2024 8 1) (Command.Sell large) ≡ Ok (Done.Sold large 0 0))
    × (live_of sold ≡ Some 1)
    × (status_of sold (date 2024 8 1) ≡ Status.Sold)
    × (answer_on sold (date 2024 8 1) (Command.Sell 9000) ≡ Err Refusal.Closed)
    × (answer_on sold (date 2024 7 31) (Command.Sell 9000) ≡ Err (Refusal.Debt EarlierDay))

-- the ring with safe keeping at a penny a day in the period
abbrev pub ring_in_safe_keeping : PledgeValue
ring_in_safe_keeping = ring_pledge (Fixed small) false None (rates_of 0 1000000 0)

-- the same after its period was extended to 2024-09-30
abbrev pub ring_extended : PledgeValue
ring_extended = changed_by ring_in_safe_keeping (date 2024 7 31) (Command.Extend (date 2024 9 30))

-- a period can be extended while it is not over
abbrev pub WorkedExtensions : Type 0
WorkedExtensions =
    let often = record (ring large) { extensions = repeat 99 (record { day = date 2024 7 31; until = date 2024 9 30 } ∷ []) } in
    (answer_on ring_in_safe_keeping (date 2024 7 31) (Command.Extend (date 2024 7 30)) ≡ Err Refusal.NotLater)
    × (pledge_step ring_in_safe_keeping (on (date 2024 7 31)) (Command.Extend (date 2024 7 31)) ≡ Answered (Done.Extended (date 2024 7 31)))
    × (answer_on ring_in_safe_keeping (date 2024 7 31) (Command.Extend (date 2024 9 30)) ≡ Ok (Done.Extended (date 2024 9 30)))
    × (pledge_step ring_extended (on (date 2024 7 31)) (Command.Extend (date 2024 9 30)) ≡ Answered (Done.Extended (date 2024 9 30)))
    × (end_of ring_extended ≡ date 2024 9 30)
    × (status_of ring_extended (date 2024 8 5) ≡ Status.Inside)
    × (status_of ring_extended (date 2024 10 1) ≡ Status.Realisable)
    × (answer_on ring_extended (date 2024 10 1) (Command.Redeem (small + 243)) ≡ Ok (Done.Redeemed (date 2024 10 1) (small + 243)))
    × (answer_on ring_in_safe_keeping (date 2024 8 1) (Command.Extend (date 2024 9 30)) ≡ Err Refusal.Passed)
    × (answer_on (ring large) (date 2024 8 1) (Command.Extend (date 2024 9 30)) ≡ Err Refusal.PeriodOver)
    × (answer_on often (date 2024 7 31) (Command.Extend (date 2024 10 1)) ≡ Err Refusal.ExtensionsFull)
