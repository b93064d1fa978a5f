use Rattle.pawn_pledge.specs.Common.{civil_after, days_of_months, days_of_years, due_after}
use Rattle.std.proofs.Common.{refl}
use Rattle.pawn_pledge.proofs.worked.worked_entries.Goals as goal

pub returns-clause-drawings : goal.returns-clause-drawings
unfolding civil_after days_of_years days_of_months due_after
returns-clause-drawings c = (refl, refl, refl, refl, refl, refl, refl)

pub returns-clause-repayments : goal.returns-clause-repayments
unfolding civil_after days_of_years days_of_months due_after
returns-clause-repayments c = (refl, refl, refl, refl, refl, refl, refl, refl, refl, refl, refl, refl, refl)
