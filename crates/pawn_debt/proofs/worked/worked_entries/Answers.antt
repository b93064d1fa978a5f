use Rattle.pawn_debt.specs.Due.{due_after, after_days}
use Rattle.pawn_terms.specs.Calendar.{civil_after, days_of_years, days_of_months}
use Rattle.std.proofs.Common.{refl}
use Rattle.pawn_debt.proofs.worked.worked_entries.Goals as goal

pub returns-clause-starts : goal.returns-clause-starts
unfolding civil_after days_of_years days_of_months due_after after_days
returns-clause-starts c = (refl, refl, refl)

pub returns-clause-drawings : goal.returns-clause-drawings
unfolding civil_after days_of_years days_of_months due_after after_days
returns-clause-drawings c = (refl, refl, refl, refl, refl, refl, refl)

pub returns-clause-repayments : goal.returns-clause-repayments
unfolding civil_after days_of_years days_of_months due_after after_days
returns-clause-repayments c = (refl, refl, refl, refl, refl, refl, refl, refl)

pub returns-clause-fullness : goal.returns-clause-fullness
unfolding civil_after days_of_years days_of_months due_after after_days
returns-clause-fullness c = (refl, refl)
