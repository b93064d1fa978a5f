-- The totals that a debt stores next to its entries: the sum owed on the day of the last entry.
use Rattle.pawn_debt.specs.Due.{Due, DebtValue, due, last_of, AreOrdered, credit_of}
use Rattle.pawn_debt.specs.Limits.{most_pence, most_entries, most_a_day}
use Rattle.pawn_debt.specs.declared.owing.Totals.{Totals}
use Rattle.pawn_terms.specs.Calendar.{IsDayNumber}
use Rattle.std.specs.Prelude.{◌≡◌, ◌-◌, ◌*◌, ◌≤◌, length}

-- the principal and the charges of totals
abbrev pub sums_of : Totals → Due
sums_of t = record { principal = t.principal; millionths = t.millionths }

-- the sum owed on the day of the last entry, or on the day taken if there is no entry
abbrev pub totals_of : DebtValue → Totals
totals_of p = record {
  day = last_of p.taken p.entries;
  principal = (due p (last_of p.taken p.entries)).principal;
  millionths = (due p (last_of p.taken p.entries)).millionths;
}

-- the totals are the sum owed on the day of the last entry, and all numbers are within their limits
pub record IsDebtKept (p : DebtValue) (t : Totals) : Type 0 where
  pub ordered : AreOrdered p.taken p.entries
  pub day : t.day ≡ last_of p.taken p.entries
  pub owed : sums_of t ≡ due p t.day
  pub credit : credit_of p.kind ≤ most_pence
  pub principal_in : t.principal ≤ most_pence
  pub millionths_in : t.millionths ≤ (t.day - p.taken) * most_a_day
  pub taken_in : IsDayNumber p.taken
  pub day_in : IsDayNumber t.day
  pub few : length p.entries ≤ most_entries
