use Rattle.pawn_pledge.specs.Common.{civil_after, days_of_months, days_of_years, due_after}
use Rattle.std.proofs.Common.{refl}
use Rattle.pawn_pledge.proofs.worked.worked_receipts.Goals as goal

pub returns-clause-holds : goal.returns-clause-holds
unfolding civil_after days_of_years days_of_months due_after
returns-clause-holds c = (refl, refl, refl, refl, refl, refl, refl, refl)

pub returns-clause-declarations : goal.returns-clause-declarations
unfolding civil_after days_of_years days_of_months due_after
returns-clause-declarations c = (refl, refl, refl, refl, refl, refl, refl, refl, refl)
