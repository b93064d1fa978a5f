use Rattle.pawn_pledge.specs.Common.{civil_after, days_of_months, days_of_years, due_after}
use Rattle.std.proofs.Common.{refl}
use Rattle.pawn_pledge.proofs.worked.worked_pledges.Goals as goal

pub returns-clause-starts : goal.returns-clause-starts
unfolding civil_after days_of_years days_of_months due_after
returns-clause-starts c = (refl, refl, refl, refl)

pub returns-clause-statuses : goal.returns-clause-statuses
unfolding civil_after days_of_years days_of_months due_after
returns-clause-statuses c = (refl, refl, refl, refl, refl, refl, refl, refl)
