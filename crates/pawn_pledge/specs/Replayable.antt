-- Reachable records of pledges: those that commands can produce.
use Rattle.pawn_base.specs.Text.{IsText}
use Rattle.pawn_pledge.specs.Common.{AreEntriesAccepted, AreOrdered, DoNotFall, Draw, Each, Entry, IsChecked}
use Rattle.pawn_pledge.specs.Common.{IsRequestDay, Repay, Sort, credit_of, last_by, last_of, last_request_day, most_entries}
use Rattle.pawn_pledge.specs.Common.{most_pence}
use Rattle.pawn_pledge.specs.Limits.{small_credit, most_secrets, most_extensions, last_window, most_article_bytes}
use Rattle.pawn_pledge.specs.Limits.{most_reference_bytes}
use Rattle.pawn_pledge.specs.Number.{IsNumber}
use Rattle.pawn_pledge.specs.Pledge.{PledgeValue, end_with, end_of, total_on, debt_of, open_status, is_passed}
use Rattle.pawn_pledge.specs.declared.record.Booking.{Booking}
use Rattle.pawn_pledge.specs.declared.record.BookingState.{BookingState}
use Rattle.pawn_pledge.specs.declared.record.Closing.{Closing}
use Rattle.pawn_pledge.specs.declared.record.Extension.{Extension}
use Rattle.pawn_pledge.specs.declared.record.Issue.{Issue}
use Rattle.pawn_pledge.specs.declared.record.Issued.{Issued}
use Rattle.pawn_pledge.specs.declared.record.Opening.{Opening}
use Rattle.std.specs.List.{list_any}
use Rattle.std.specs.Prelude.{◌≡◌, ℕ, ◌+◌, ◌≤◌, ◌<◌, ◌==◌, false, List, [], ◌∷◌, length, Option, Some, None, IfSome}
use Rattle.pawn_pledge.specs.declared.record.Status.TheVariants as Status

-- the property has not passed on a day, if the pledge is not closed
abbrev pub IsNotPassed : PledgeValue → ℕ → Type 0
IsNotPassed p day = is_passed (open_status p day) ≡ false

-- a secret after the first is issued on a statutory declaration, or on a written statement if the credit is small
abbrev pub IsLaterIssue : ℕ → Issue → Type 0
IsLaterIssue credit Issue.Opening = ⊥
IsLaterIssue credit Issue.Sworn = Unit {0}
IsLaterIssue credit Issue.Written = credit ≤ small_credit

-- the first secret was issued when the pledge was taken, and all later ones on declarations
abbrev pub AreIssued : ℕ → ℕ → List Issued → Type 0
AreIssued taken credit [] = ⊥
AreIssued taken credit (i ∷ is) =
    (i.sort ≡ Issue.Opening) × (i.day ≡ taken) × Each (λ j. IsLaterIssue credit j.sort) is

-- no two secrets are the same
abbrev pub AreDistinctSecrets : List Issued → Type 0
AreDistinctSecrets [] = Unit {0}
AreDistinctSecrets (i ∷ is) = (list_any (λ j. j.secret == i.secret) is ≡ false) × AreDistinctSecrets is

-- the entries are numbered n, n + 1, ..
abbrev pub AreNumbered : ℕ → List Entry → Type 0
AreNumbered n [] = Unit {0}
AreNumbered n (e ∷ es) = (e.seq ≡ n) × AreNumbered (n + 1) es

-- a drawing is not after the end of the period
abbrev pub IsDrawnBy : ℕ → Sort → ℕ → Type 0
IsDrawnBy ends Draw day = day ≤ ends
IsDrawnBy ends Repay day = Unit {0}

-- each extension was agreed for a later end, within the period as it was on that day
abbrev pub AreExtended : ℕ → ℕ → List Extension → Type 0
AreExtended day ends [] = Unit {0}
AreExtended day ends (e ∷ es) =
    (day ≤ e.day) × (e.day ≤ ends) × (ends < e.until) × AreExtended e.day e.until es

-- a pledge is closed on the day of its last change: redeemed for the sum owed while not on hold, or sold while
-- realisable
abbrev pub IsClosed : PledgeValue → Closing → Type 0
IsClosed p Closing.Open = Unit {0}
IsClosed p (Closing.Redeemed day paid) = (day ≡ p.standing.last) × (paid ≡ total_on p day) × (p.standing.held ≡ false)
IsClosed p (Closing.Sold day net) = (day ≡ p.standing.last) × (open_status p day ≡ Status.Realisable) × (net ≤ most_pence)

-- the booking is not active: neither asked for nor confirmed
abbrev pub IsBookingOver : BookingState → Type 0
IsBookingOver BookingState.Asked = ⊥
IsBookingOver BookingState.Confirmed = ⊥
IsBookingOver other = Unit {0}

-- a closed pledge has no active booking
abbrev pub IsOverUnder : Closing → BookingState → Type 0
IsOverUnder Closing.Open state = Unit {0}
IsOverUnder closed state = IsBookingOver state

-- a booking for a window of a day that is not before the day taken, and on which the property has not passed
abbrev pub IsBooked : PledgeValue → Option Booking → Type 0
IsBooked p None = Unit {0}
IsBooked p (Some b) = (p.agreement.taken ≤ b.day) × IsNotPassed p b.day × (b.window ≤ last_window) × IsOverUnder p.standing.closing b.state

-- the secrets differ and are in the order of their days, and none was issued when the property had passed
pub record IsIssued (p : PledgeValue) : Type 0 where
  pub sorts : AreIssued p.agreement.taken (credit_of p.agreement.opening.kind) p.secrets
  pub distinct : AreDistinctSecrets p.secrets
  pub ordered : DoNotFall (λ i. i.day) p.agreement.taken p.secrets
  pub before : last_by (λ i. i.day) p.agreement.taken p.secrets ≤ p.standing.last
  pub not_passed : Each (λ i. IsNotPassed p i.day) p.secrets

-- the rules accept each entry after those before it
pub record IsEntered (p : PledgeValue) : Type 0 where
  pub numbered : AreNumbered 1 p.entries
  pub ordered : AreOrdered p.agreement.taken p.entries
  pub before : last_of p.agreement.taken p.entries ≤ p.standing.last
  pub accepted : AreEntriesAccepted (debt_of p) [] p.entries
  pub not_passed : Each (λ e. IsNotPassed p e.day) p.entries
  pub drawn : Each (λ e. IsDrawnBy (end_of p) e.sort e.day) p.entries

-- each extension was agreed within the period as it was on that day, and none after the last change
pub record IsExtended (p : PledgeValue) : Type 0 where
  pub each : AreExtended p.agreement.taken (end_with p.agreement None) p.extensions
  pub before : last_by (λ e. e.day) p.agreement.taken p.extensions ≤ p.standing.last

-- a replayable record: one that commands can produce
pub record IsReplayable (p : PledgeValue) : Type 0 where
  pub credit : (1 ≤ credit_of p.agreement.opening.kind) × (credit_of p.agreement.opening.kind ≤ most_pence)
  pub issued : IsIssued p
  pub entered : IsEntered p
  pub last_in : p.agreement.taken ≤ p.standing.last
  pub last_open : IsNotPassed p p.standing.last
  pub closed : IsClosed p p.standing.closing
  pub booked : IsBooked p p.standing.booking
  pub extended : IsExtended p

-- an opening that a request can have: its texts and its agreed end are within their limits
pub record IsOpening (o : Opening) : Type 0 where
  pub reference : IsText most_reference_bytes o.reference
  pub article : IsText most_article_bytes o.article
  pub agreed : IfSome o.agreed IsRequestDay

-- the limits of a record: on its number, its texts, its days and the lengths of its lists
pub record IsWithinLimits (p : PledgeValue) : Type 0 where
  pub number : IsNumber p.agreement.number
  pub opening : IsOpening p.agreement.opening
  pub entries : length p.entries ≤ most_entries
  pub secrets : length p.secrets ≤ most_secrets
  pub extensions : length p.extensions ≤ most_extensions
  pub untils : Each (λ e. e.until ≤ last_request_day) p.extensions
  pub booking : IfSome p.standing.booking (λ b. b.day ≤ last_request_day)
  pub last : p.standing.last ≤ last_request_day

-- a record that a pledge can have: replayable and within the limits, with checked terms
pub record IsReachable (p : PledgeValue) : Type 0 where
  pub terms : IsChecked p.agreement.terms
  pub replayable : IsReplayable p
  pub within : IsWithinLimits p
