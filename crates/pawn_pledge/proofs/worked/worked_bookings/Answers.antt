use Rattle.pawn_pledge.specs.Common.{civil_after, days_of_months, days_of_years, due_after}
use Rattle.std.proofs.Common.{refl}
use Rattle.pawn_pledge.proofs.worked.worked_bookings.Goals as goal

pub returns-clause-askings : goal.returns-clause-askings
unfolding civil_after days_of_years days_of_months due_after
returns-clause-askings c = (refl, refl, refl, refl, refl, refl, refl, refl, refl, refl)

pub returns-clause-cancellings : goal.returns-clause-cancellings
unfolding civil_after days_of_years days_of_months due_after
returns-clause-cancellings c = (refl, refl, refl, refl, refl)

pub returns-clause-decisions : goal.returns-clause-decisions
unfolding civil_after days_of_years days_of_months due_after
returns-clause-decisions c = (refl, refl, refl, refl, refl, refl, refl, refl, refl, refl)
