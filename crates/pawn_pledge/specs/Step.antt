-- The result of a command: the first refusal that applies, or an answer and the pledge after it.
use Rattle.pawn_pledge.specs.Common.{BadAmount, DebtFault, DebtValue, Draw, EarlierDay, Entry, IsSaid, IsWant, Rates}
use Rattle.pawn_pledge.specs.Common.{Repay, Sort, credit_of, draw_answer, first_of, is_bad_amount, most_pence}
use Rattle.pawn_pledge.specs.Common.{repay_answer}
use Rattle.pawn_pledge.specs.Limits.{most_secrets, most_extensions, last_window}
use Rattle.pawn_pledge.specs.Pledge.{PledgeValue, end_of, is_small, debt_of, total_on, open_status, is_passed}
use Rattle.pawn_pledge.specs.Pledge.{is_realisable}
use Rattle.pawn_pledge.specs.Refusal.{refusal_of}
use Rattle.pawn_pledge.specs.Words.{with_last, with_hold, with_booking, with_standing, is_open, is_repeat, is_ahead}
use Rattle.pawn_pledge.specs.Words.{new_entry, same_flag, is_written, issue_of, with_secret, in_state, is_asked_again}
use Rattle.pawn_pledge.specs.Words.{close, with_extension}
use Rattle.pawn_pledge.specs.declared.command.Applied.{Applied}
use Rattle.pawn_pledge.specs.declared.command.Command.{Command}
use Rattle.pawn_pledge.specs.declared.command.Decision.{Decision}
use Rattle.pawn_pledge.specs.declared.command.Decision.TheVariants.{Confirm, Refuse}
use Rattle.pawn_pledge.specs.declared.command.Done.{Done}
use Rattle.pawn_pledge.specs.declared.command.Paper.{Paper}
use Rattle.pawn_pledge.specs.declared.command.Stamp.{Stamp}
use Rattle.pawn_pledge.specs.declared.record.Booking.{Booking}
use Rattle.pawn_pledge.specs.declared.record.BookingState.{BookingState}
use Rattle.pawn_pledge.specs.declared.record.Closing.{Closing}
use Rattle.pawn_pledge.specs.declared.record.Issue.{Issue}
use Rattle.pawn_pledge.specs.declared.record.Opening.{Opening}
use Rattle.pawn_pledge.specs.declared.refusal.Refusal.{Refusal}
use Rattle.std.specs.List.{list_any}
use Rattle.std.specs.Prelude.{◌≡◌, ℕ, ◌-◌, nat_lt, nat_le, ◌==◌, ◌&&◌, not, Bool, true, false, if◌then◌else◌, List, []}
use Rattle.std.specs.Prelude.{◌∷◌, length, find, Option, Some, None, Result, Ok, Err, ◌⊎◌}

-- a new pledge, whose one secret is the stamp's word
abbrev pub new_pledge : ℕ → Opening → ℕ → Rates → Stamp → PledgeValue
new_pledge number opening version terms stamp = record {
  agreement = record { number = number; opening = opening; taken = stamp.day; version = version; terms = terms };
  entries = [];
  secrets = record { day = stamp.day; sort = Issue.Opening; secret = stamp.word } ∷ [];
  extensions = [];
  standing = record { held = false; booking = None; last = stamp.day; closing = Closing.Open };
}

-- the sum or the limit of an opening is 0 or above the greatest amount
abbrev pub is_bad_opening : Opening → Bool
is_bad_opening opening = is_bad_amount (credit_of opening.kind)

-- a new pledge, or its refusal
abbrev pub pledge_start : ℕ → Opening → ℕ → Rates → Stamp → Result PledgeValue Refusal
pledge_start number opening version terms stamp =
    first_of ((is_bad_opening opening, Refusal.Debt BadAmount) ∷ []) (Ok (new_pledge number opening version terms stamp))

-- the result of a command
pub data StepResult : Type 0 where
  Refused : (why : Refusal) → StepResult
  -- an answer without a change
  Answered : (done : Done) → StepResult
  -- the pledge after a change, and an answer
  Changed : (pledge : PledgeValue) (done : Done) → StepResult

-- the given result, unless there is a refusal
abbrev pub where_clear : Result (Unit {0}) Refusal → StepResult → StepResult
where_clear (Ok clear) stepped = stepped
where_clear (Err why) stepped = Refused why

-- the refusal of the first condition that holds; if none holds, the given result
abbrev pub unless : List (Bool × Refusal) → StepResult → StepResult
unless rows stepped = where_clear (first_of rows (Ok tt)) stepped

-- the refusals that all commands share, on the day x
abbrev pub shared_refusals : PledgeValue → ℕ → List (Bool × Refusal)
shared_refusals p x =
    (nat_lt x p.standing.last, Refusal.Debt EarlierDay)
    ∷ (not (is_open p.standing.closing), Refusal.Closed)
    ∷ (is_passed (open_status p x), Refusal.Passed)
    ∷ []

-- the refusal of a drawing or an extension after the end of the period
abbrev pub period_refusals : PledgeValue → ℕ → List (Bool × Refusal)
period_refusals p x = (nat_lt (end_of p) x, Refusal.PeriodOver) ∷ []

-- drawings and repayments

-- the result of an entry, by the debt's answer
abbrev pub under_debt : PledgeValue → ℕ → Sort → ℕ → Result DebtValue DebtFault → StepResult
under_debt p x sort pence (Ok debt) =
    Changed (record p { entries = debt.entries; standing = with_last p.standing x }) (Done.Entered (new_entry p x sort pence))
under_debt p x sort pence (Err fault) = Refused (refusal_of fault)

-- a drawing is refused after the end of the period; the other refusals are those of the debt
abbrev pub entry_step : PledgeValue → ℕ → Sort → ℕ → StepResult
entry_step p x Draw pence =
    unless (period_refusals p x) (under_debt p x Draw pence (draw_answer (debt_of p) x pence))
entry_step p x Repay pence = under_debt p x Repay pence (repay_answer (debt_of p) x pence)

-- if the number of an entry is taken, a repeat gets the answer of the first time and an entry that differs is refused,
-- whatever the day and the pledge's state
abbrev pub numbered_step : PledgeValue → ℕ → ℕ → Sort → ℕ → Option Entry → StepResult
numbered_step p x seq sort pence (Some e) =
    unless ((not (is_repeat e sort pence), Refusal.SeqTaken) ∷ []) (Answered (Done.Entered e))
numbered_step p x seq sort pence None =
    unless ((is_ahead p seq, Refusal.SeqAhead) ∷ []) (unless (shared_refusals p x) (entry_step p x sort pence))

-- the entry with this number, if there is one
abbrev pub entry_of : PledgeValue → ℕ → Option Entry
entry_of p seq = find (λ e. e.seq == seq) p.entries

-- puts the pledge on hold, or ends the hold; if the flag already has this value, nothing changes
abbrev pub hold_step : PledgeValue → ℕ → Bool → StepResult
hold_step p x flag =
    if same_flag p.standing.held flag then Answered (Done.Held flag)
    else Changed (with_standing p (with_hold p.standing flag x)) (Done.Held flag)

-- declarations

-- the refusals that only a declaration can have, in order
abbrev pub declare_refusals : PledgeValue → Paper → ℕ → List (Bool × Refusal)
declare_refusals p paper word =
    (is_written paper && not (is_small (credit_of p.agreement.opening.kind)), Refusal.NotSmall)
    ∷ (nat_le most_secrets (length p.secrets), Refusal.DeclarationsFull)
    ∷ (list_any (λ issued. issued.secret == word) p.secrets, Refusal.SecretUsed)
    ∷ []

-- the stamp's word is the new and only live secret
abbrev pub declare_step : PledgeValue → Stamp → Paper → StepResult
declare_step p stamp paper =
    unless (declare_refusals p paper stamp.word)
    (Changed (with_secret p (record { day = stamp.day; sort = issue_of paper; secret = stamp.word })) (Done.Declared stamp.word))

-- bookings

-- a change of the pledge's booking
abbrev pub makes_booking : PledgeValue → ℕ → Booking → StepResult
makes_booking p x booking = Changed (with_standing p (with_booking p.standing booking x)) (Done.Booked booking)

-- a booking replaces any other; if an active booking (asked for or confirmed) already has this day and window, the
-- answer is that booking and nothing changes
abbrev pub ask_once : PledgeValue → ℕ → ℕ → ℕ → Option Booking → StepResult
ask_once p x day window None = makes_booking p x (record { day = day; window = window; state = BookingState.Asked })
ask_once p x day window (Some booking) =
    if is_asked_again booking day window then Answered (Done.Booked booking)
    else makes_booking p x (record { day = day; window = window; state = BookingState.Asked })

-- the refusals of asking for a booking, in order
abbrev pub ask_refusals : PledgeValue → ℕ → ℕ → ℕ → List (Bool × Refusal)
ask_refusals p x day window =
    (nat_lt last_window window, Refusal.BadWindow)
    ∷ (nat_lt day x, Refusal.BookingDay)
    ∷ (is_passed (open_status p day), Refusal.BookingDay)
    ∷ []

-- the result of asking for a booking
abbrev pub ask_step : PledgeValue → ℕ → ℕ → ℕ → StepResult
ask_step p x day window = unless (ask_refusals p x day window) (ask_once p x day window p.standing.booking)

-- the result of cancelling, by the booking's state
abbrev pub cancel_in : PledgeValue → ℕ → Booking → BookingState → StepResult
cancel_in p x booking BookingState.Asked = makes_booking p x (in_state booking BookingState.Cancelled)
cancel_in p x booking BookingState.Confirmed = makes_booking p x (in_state booking BookingState.Cancelled)
cancel_in p x booking BookingState.Refused = Refused Refusal.NoBooking
cancel_in p x booking BookingState.Cancelled = Answered (Done.Booked booking)

-- the result of cancelling; there must be a booking
abbrev pub cancel_step : PledgeValue → ℕ → Option Booking → StepResult
cancel_step p x None = Refused Refusal.NoBooking
cancel_step p x (Some booking) = cancel_in p x booking booking.state

-- the result of confirming, by the booking's state; the day of a booking that is asked for must not be over
abbrev pub confirm_in : PledgeValue → ℕ → Booking → BookingState → StepResult
confirm_in p x booking BookingState.Asked =
    unless ((nat_lt booking.day x, Refusal.BookingDay) ∷ []) (makes_booking p x (in_state booking BookingState.Confirmed))
confirm_in p x booking BookingState.Confirmed = Answered (Done.Booked booking)
confirm_in p x booking BookingState.Refused = Refused Refusal.NoBooking
confirm_in p x booking BookingState.Cancelled = Refused Refusal.NoBooking

-- the result of refusing, by the booking's state
abbrev pub decline_in : PledgeValue → ℕ → Booking → BookingState → StepResult
decline_in p x booking BookingState.Asked = makes_booking p x (in_state booking BookingState.Refused)
decline_in p x booking BookingState.Confirmed = makes_booking p x (in_state booking BookingState.Refused)
decline_in p x booking BookingState.Refused = Answered (Done.Booked booking)
decline_in p x booking BookingState.Cancelled = Refused Refusal.NoBooking

-- the result of a decision; there must be a booking
abbrev pub decide_step : PledgeValue → ℕ → Decision → Option Booking → StepResult
decide_step p x decision None = Refused Refusal.NoBooking
decide_step p x Confirm (Some booking) = confirm_in p x booking booking.state
decide_step p x Refuse (Some booking) = decline_in p x booking booking.state

-- closing a pledge

-- the refusals of a redemption, in order
abbrev pub redeem_refusals : PledgeValue → ℕ → ℕ → List (Bool × Refusal)
redeem_refusals p x paid =
    (p.standing.held, Refusal.Held)
    ∷ (not (paid == total_on p x), Refusal.WrongAmount (total_on p x))
    ∷ []

-- the result of a redemption
abbrev pub redeem_step : PledgeValue → ℕ → ℕ → StepResult
redeem_step p x paid =
    unless (redeem_refusals p x paid) (Changed (close p x (Closing.Redeemed x paid)) (Done.Redeemed x paid))

-- the refusals of a sale, in order
abbrev pub sell_refusals : PledgeValue → ℕ → ℕ → List (Bool × Refusal)
sell_refusals p x net =
    (not (is_realisable (open_status p x)), Refusal.NotRealisable)
    ∷ (nat_lt most_pence net, Refusal.Debt BadAmount)
    ∷ []

-- the result of a sale, with the surplus over the sum owed or the shortfall below it
abbrev pub sell_step : PledgeValue → ℕ → ℕ → StepResult
sell_step p x net =
    unless (sell_refusals p x net)
    (Changed (close p x (Closing.Sold x net)) (Done.Sold net (net - total_on p x) (total_on p x - net)))

-- the refusals of an extension to another end, in order
abbrev pub extend_refusals : PledgeValue → ℕ → List (Bool × Refusal)
extend_refusals p until =
    (nat_lt until (end_of p), Refusal.NotLater)
    ∷ (nat_le most_extensions (length p.extensions), Refusal.ExtensionsFull)
    ∷ []

-- an extension of the period; one to the present end is answered and changes nothing
abbrev pub extend_step : PledgeValue → ℕ → ℕ → StepResult
extend_step p x until =
    unless (period_refusals p x)
    (if until == end_of p then Answered (Done.Extended until)
    else unless (extend_refusals p until)
    (Changed (with_extension p (record { day = x; until = until })) (Done.Extended until)))

-- the result of a command
abbrev pub pledge_step : PledgeValue → Stamp → Command → StepResult
pledge_step p stamp (Command.Draw seq pence) = numbered_step p stamp.day seq Draw pence (entry_of p seq)
pledge_step p stamp (Command.Repay seq pence) = numbered_step p stamp.day seq Repay pence (entry_of p seq)
pledge_step p stamp Command.Hold = unless (shared_refusals p stamp.day) (hold_step p stamp.day true)
pledge_step p stamp Command.Release = unless (shared_refusals p stamp.day) (hold_step p stamp.day false)
pledge_step p stamp (Command.Declare paper) = unless (shared_refusals p stamp.day) (declare_step p stamp paper)
pledge_step p stamp (Command.AskBooking day window) = unless (shared_refusals p stamp.day) (ask_step p stamp.day day window)
pledge_step p stamp Command.CancelBooking = unless (shared_refusals p stamp.day) (cancel_step p stamp.day p.standing.booking)
pledge_step p stamp (Command.DecideBooking decision) =
    unless (shared_refusals p stamp.day) (decide_step p stamp.day decision p.standing.booking)
pledge_step p stamp (Command.Redeem paid) = unless (shared_refusals p stamp.day) (redeem_step p stamp.day paid)
pledge_step p stamp (Command.Sell net) = unless (shared_refusals p stamp.day) (sell_step p stamp.day net)
pledge_step p stamp (Command.Extend until) = unless (shared_refusals p stamp.day) (extend_step p stamp.day until)

-- the answer to the caller
abbrev pub reply_of : StepResult → Result Done Refusal
reply_of (Refused why) = Err why
reply_of (Answered done) = Ok done
reply_of (Changed pledge done) = Ok done

-- the pledge after a command
abbrev pub pledge_after : PledgeValue → StepResult → PledgeValue
pledge_after p (Changed pledge done) = pledge
pledge_after p other = p

-- the answer reports a new entry, secret or extension
abbrev pub IsAddition : Done → Type 0
IsAddition (Done.Entered entry) = Unit {0}
IsAddition (Done.Declared secret) = Unit {0}
IsAddition (Done.Extended until) = Unit {0}
IsAddition other = ⊥

-- the command adds to a list of the pledge
abbrev pub IsGrowth : StepResult → Type 0
IsGrowth (Changed pledge done) = IsAddition done
IsGrowth other = ⊥

-- the call does what the step states, or returns `Memory` if the step adds to a list; after an error the pledge is
-- unchanged
abbrev pub IsStep : StepResult → PledgeValue → Result Done Refusal → PledgeValue → Type 0
IsStep stepped old (Ok done) new = (reply_of stepped ≡ Ok done) × (new ≡ pledge_after old stepped)
IsStep stepped old (Err fault) new = (new ≡ old) × ((stepped ≡ Refused fault) ⊎ ((fault ≡ Refusal.Memory) × IsGrowth stepped))

-- the result that a call reported
abbrev pub step_result_of : Applied → PledgeValue → StepResult
step_result_of applied new = if applied.changed then Changed new applied.done else Answered applied.done

-- the same as `IsStep`, for a call that also reports whether there was a change
abbrev pub IsApplied : StepResult → PledgeValue → Result Applied Refusal → PledgeValue → Type 0
IsApplied stepped old (Ok applied) new = (stepped ≡ step_result_of applied new) × (new ≡ pledge_after old stepped)
IsApplied stepped old (Err fault) new = (new ≡ old) × ((stepped ≡ Refused fault) ⊎ ((fault ≡ Refusal.Memory) × IsGrowth stepped))

-- the call returns what the rules state, or `Memory` where the rules accept
abbrev pub IsStarted : Result PledgeValue Refusal → Result PledgeValue Refusal → Type 0
IsStarted answer result = IsSaid (IsWant Refusal.Memory answer) answer result
