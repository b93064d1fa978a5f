use Rattle.pawn_terms.specs.Calendar.{civil_after, days_of_years, days_of_months}
use Rattle.std.proofs.Common.{refl}
use Rattle.pawn_terms.proofs.worked.worked_ends.Goals as goal

pub returns-clause-six_months : goal.returns-clause-six_months
unfolding civil_after days_of_years days_of_months
returns-clause-six_months c = (refl, refl, refl, refl, refl)

pub returns-clause-ends : goal.returns-clause-ends
unfolding civil_after days_of_years days_of_months
returns-clause-ends c = (refl, refl, refl, refl)
