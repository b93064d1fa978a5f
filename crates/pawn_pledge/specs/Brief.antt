-- A pledge without its lists, and the limits of its fields.
use Rattle.pawn_debt.specs.declared.owing.Owing.{Owing}
use Rattle.pawn_pledge.specs.Common.{IsChecked, Totals, after_days, credit_of, last_request_day, most_entries}
use Rattle.pawn_pledge.specs.Common.{most_millionths, most_pence, owing_of, sums_of, totals_of}
use Rattle.pawn_pledge.specs.Limits.{most_secrets, most_extensions, last_window}
use Rattle.pawn_pledge.specs.Pledge.{PledgeValue, end_of, debt_of, live_of, status_by, status_under}
use Rattle.pawn_pledge.specs.declared.brief.BriefFields.{BriefFields}
use Rattle.pawn_pledge.specs.declared.record.Booking.{Booking}
use Rattle.pawn_pledge.specs.declared.record.Closing.{Closing}
use Rattle.pawn_pledge.specs.declared.record.Status.{Status}
use Rattle.std.specs.Prelude.{ℕ, ◌-◌, ◌≤◌, length, IfSome}

-- the brief of a pledge
abbrev pub brief_of : PledgeValue → BriefFields
brief_of p = record {
  agreement = p.agreement;
  counts = record { entries = length p.entries; secrets = length p.secrets; extensions = length p.extensions };
  standing = p.standing;
  live = live_of p;
  ends = end_of p;
  totals = totals_of (debt_of p);
}

-- the status of the pledge on a day
abbrev pub brief_status : BriefFields → ℕ → Status
brief_status b x = status_under b.standing.closing (status_by b.agreement b.ends x)

-- the sum owed on a day that is not before the day of the totals
abbrev pub brief_owing : BriefFields → ℕ → Owing
brief_owing b x = owing_of (after_days b.agreement.terms b.ends b.totals.day (x - b.totals.day) (sums_of b.totals))

-- a booking for one of a day's windows, on a day that a request may name
abbrev pub IsBookingWithin : Booking → Type 0
IsBookingWithin b = (b.day ≤ last_request_day) × (b.window ≤ last_window)

-- a closing on a day that a request may name; a sale brings no more than the largest sum
abbrev pub IsClosingWithin : Closing → Type 0
IsClosingWithin Closing.Open = Unit {0}
IsClosingWithin (Closing.Redeemed day paid) = day ≤ last_request_day
IsClosingWithin (Closing.Sold day net) = (day ≤ last_request_day) × (net ≤ most_pence)

-- totals of a day that a request may name, with sums within the limits from which they can be carried forward
abbrev pub AreTotalsWithin : Totals → Type 0
AreTotalsWithin t = (t.day ≤ last_request_day) × (t.principal ≤ most_pence) × (t.millionths ≤ most_millionths)

-- the limits of a brief, except those that the types of its fields keep
pub record IsBriefWithin (b : BriefFields) : Type 0 where
  pub some : 1 ≤ credit_of b.agreement.opening.kind
  pub credit : credit_of b.agreement.opening.kind ≤ most_pence
  pub terms : IsChecked b.agreement.terms
  pub taken : b.agreement.taken ≤ last_request_day
  pub last : b.standing.last ≤ last_request_day
  pub entries : b.counts.entries ≤ most_entries
  pub secrets : b.counts.secrets ≤ most_secrets
  pub extensions : b.counts.extensions ≤ most_extensions
  pub booking : IfSome b.standing.booking IsBookingWithin
  pub closing : IsClosingWithin b.standing.closing
  pub totals : AreTotalsWithin b.totals
