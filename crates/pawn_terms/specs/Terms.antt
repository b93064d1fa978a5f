-- The terms of an agreement.
use Rattle.pawn_terms.specs.Limits.{most_rate, most_keep}
use Rattle.pawn_terms.specs.declared.terms.Rates.{Rates}
use Rattle.std.specs.Prelude.{ℕ, ◌≤◌}

-- the terms of three numbers: the rate of interest in millionths per day, and the charges for safe keeping up to the
-- end of the period and after it, in millionths of a penny per day
abbrev pub rates_of : ℕ → ℕ → ℕ → Rates
rates_of rate before after = record { rate = rate; keep_before = before; keep_after = after }

-- the rate and the first charge are within their limits, and the charge after the end is at most the charge before it
abbrev pub IsChecked : Rates → Type 0
IsChecked t = (t.rate ≤ most_rate) × (t.keep_before ≤ most_keep) × (t.keep_after ≤ t.keep_before)
