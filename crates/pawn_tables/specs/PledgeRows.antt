-- The row of a pledge, its rows in other tables, and when they can be decoded.
use Rattle.pawn_pledge.specs.Limits.{most_article_bytes, most_reference_bytes}
use Rattle.pawn_pledge.specs.declared.record.Opening.{Opening}
use Rattle.pawn_tables.specs.Common.{IsDayNumber, IsRequestDay, totals_of, Totals, IsBriefWithin, PledgeValue}
use Rattle.pawn_tables.specs.Common.{debt_of, end_of, last_element, IsText, Booking}
use Rattle.pawn_tables.specs.ListEnds.{stored_brief}
use Rattle.pawn_tables.specs.Rows.{closed_day}
use Rattle.pawn_tables.specs.declared.credits.Credit.{Credit}
use Rattle.pawn_tables.specs.declared.joining.PledgeLists.{PledgeLists}
use Rattle.pawn_tables.specs.declared.joining.RelatedRows.{RelatedRows}
use Rattle.pawn_tables.specs.declared.joining.StoredPledge.{StoredPledge}
use Rattle.pawn_tables.specs.declared.records.PledgeRow.{PledgeRow}
use Rattle.std.specs.Prelude.{◌≡◌, Option, Some, None, IfSome, IsTrue, is_some}
use Rattle.std.specs.Str.{IsUtf8}

-- an opening can be decoded: its texts are within their limits, and its agreed end, if any, is a day
-- that a request may name
pub record IsOpeningDecodable (o : Opening) : Type 0 where
  pub reference : IsText most_reference_bytes o.reference × IsUtf8 o.reference
  pub article : IsText most_article_bytes o.article × IsUtf8 o.article
  pub agreed : IfSome o.agreed IsRequestDay

-- the row of a pledge, decoded
abbrev pub row_of : PledgeValue → PledgeRow
row_of p = record {
  opening = p.agreement.opening;
  taken = p.agreement.taken;
  version = p.agreement.version;
  ends = end_of p;
  held = p.standing.held;
  last = p.standing.last;
  closing = p.standing.closing;
}

-- the row of a pledge can be decoded: its opening can be, and its days are days of the calendar
pub record IsRowDecodable (p : PledgeValue) : Type 0 where
  pub opening : IsOpeningDecodable p.agreement.opening
  pub taken : IsDayNumber p.agreement.taken
  pub last : IsDayNumber p.standing.last
  pub closed : IfSome (closed_day p.standing.closing) IsDayNumber

-- the part of the row of a pledge that its debt depends on
abbrev pub stored_credit : PledgeValue → Credit
stored_credit p = record { kind = p.agreement.opening.kind; taken = p.agreement.taken; agreed = p.agreement.opening.agreed; version = p.agreement.version }

-- this part can be decoded: its days are requests' days
pub record IsCreditDecodable (p : PledgeValue) : Type 0 where
  pub taken : IsRequestDay p.agreement.taken
  pub agreed : IfSome p.agreement.opening.agreed IsRequestDay

-- the booking of a pledge
abbrev pub booking_of : Option PledgeValue → Option Booking
booking_of None = None
booking_of (Some p) = p.standing.booking

-- the sum owed on the day of the last entry, or on the day taken if there is no entry
abbrev pub totals_in : Option PledgeValue → Option Totals
totals_in None = None
totals_in (Some p) = Some (totals_of (debt_of p))

-- these are the lists of the pledge
pub record AreLists (l : PledgeLists) (p : PledgeValue) : Type 0 where
  pub entries : l.entries ≡ p.entries
  pub secrets : l.secrets ≡ p.secrets
  pub extensions : l.extensions ≡ p.extensions

-- these are the terms, the booking and the totals of the pledge
pub record AreRelated (s : RelatedRows) (p : PledgeValue) : Type 0 where
  pub terms : s.terms ≡ Some p.agreement.terms
  pub booking : s.booking ≡ p.standing.booking
  pub totals : s.totals ≡ Some (totals_of (debt_of p))

-- this is the row of the pledge with its terms, its booking and its totals; there is none if there is no such pledge
abbrev pub IsPledgeRow : Option StoredPledge → Option PledgeValue → Type 0
IsPledgeRow None None = Unit {0}
IsPledgeRow None (Some p) = ⊥
IsPledgeRow (Some t) None = ⊥
IsPledgeRow (Some t) (Some p) = (t.row ≡ row_of p) × AreRelated t.related p

-- the pledge has a secret
abbrev pub HasSecret : PledgeValue → Type 0
HasSecret p = IsTrue (is_some (last_element p.secrets))

-- the brief can be read: the pledge has a secret, its end is a day, and what is read is within the limits of a brief
pub record IsBriefDecodable (p : PledgeValue) : Type 0 where
  pub secret : HasSecret p
  pub ends : IsDayNumber (end_of p)
  pub within : IsBriefWithin (stored_brief p)
