use Rattle.pawn_terms.specs.Calendar.{civil_after, days_of_years, days_of_months}
use Rattle.std.proofs.Common.{refl}
use Rattle.pawn_terms.proofs.worked.worked_days.Goals as goal

pub returns-clause-numbers : goal.returns-clause-numbers
unfolding civil_after days_of_years days_of_months
returns-clause-numbers c = (refl, refl, refl, refl)

pub returns-clause-texts : goal.returns-clause-texts
unfolding civil_after days_of_years days_of_months
returns-clause-texts c = (refl, refl, refl, refl, refl, refl)
