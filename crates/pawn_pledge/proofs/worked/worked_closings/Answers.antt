use Rattle.pawn_pledge.specs.Common.{civil_after, days_of_months, days_of_years, due_after}
use Rattle.std.proofs.Common.{refl}
use Rattle.pawn_pledge.proofs.worked.worked_closings.Goals as goal

pub returns-clause-redemptions : goal.returns-clause-redemptions
unfolding civil_after days_of_years days_of_months due_after
returns-clause-redemptions c = (refl, refl, refl, refl, refl, refl, refl, refl, refl, refl, refl, refl)

pub returns-clause-sales : goal.returns-clause-sales
unfolding civil_after days_of_years days_of_months due_after
returns-clause-sales c = (refl, refl, refl, refl, refl, refl, refl, refl, refl, refl, refl, refl)
