use Rattle.pawn_wire.specs.Common.{civil_after, days_of_years, days_of_months}
use Rattle.pawn_wire.specs.Named.{number_said, day_said}
use Rattle.std.proofs.Common.{refl}
use Rattle.pawn_wire.proofs.worked.worked_texts.Goals as goal

pub returns-clause-numbers : goal.returns-clause-numbers
unfolding number_said
returns-clause-numbers c = (refl, refl, refl, refl, refl, refl, refl, refl, refl)

pub returns-clause-days : goal.returns-clause-days
unfolding day_said civil_after days_of_years days_of_months
returns-clause-days c = (refl, refl, refl, refl, refl, refl, refl, refl, refl, refl, refl)
