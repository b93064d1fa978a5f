use Rattle.pawn_terms.specs.Calendar.{civil_after, days_of_years, days_of_months}
use Rattle.std.proofs.Common.{refl}
use Rattle.pawn_program.proofs.worked.worked_clock.Goals as goal

pub returns : goal.returns
unfolding civil_after days_of_years days_of_months
returns c = record { days = (refl, refl, refl, refl, refl, refl, refl, refl, refl, refl) }
