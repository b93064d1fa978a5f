use Rattle.pawn_pledge.specs.Common.{civil_after, days_of_months, days_of_years, due_after}
use Rattle.std.proofs.Common.{refl}
use Rattle.pawn_pledge.proofs.worked.worked_extensions.Goals as goal

pub returns : goal.returns
unfolding civil_after days_of_years days_of_months due_after
returns c = record { extensions = (refl, refl, refl, refl, refl, refl, refl, refl, refl, refl, refl) }
