use Rattle.pawn_debt.specs.Due.{due_after, after_days}
use Rattle.pawn_terms.specs.Calendar.{civil_after, days_of_years, days_of_months}
use Rattle.std.proofs.Common.{refl}
use Rattle.pawn_debt.proofs.worked.worked_debts.Goals as goal

pub returns-clause-interest : goal.returns-clause-interest
unfolding civil_after days_of_years days_of_months due_after after_days
returns-clause-interest c = (refl, refl, refl, refl, refl)

pub returns-clause-safe_keeping : goal.returns-clause-safe_keeping
unfolding civil_after days_of_years days_of_months due_after after_days
returns-clause-safe_keeping c = (refl, refl, refl, refl)

pub returns-clause-totals : goal.returns-clause-totals
unfolding civil_after days_of_years days_of_months due_after after_days
returns-clause-totals c = (refl, refl, refl)
