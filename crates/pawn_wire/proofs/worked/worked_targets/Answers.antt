use Rattle.matchit.proofs.OnLiterals.{matchit_on_literals}
use Rattle.pawn_wire.specs.Common.{civil_after, days_of_years, days_of_months}
use Rattle.pawn_wire.specs.Named.{day_said, number_said}
use Rattle.pawn_wire.specs.Route.{table_rows}
use Rattle.std.proofs.Common.{refl}
use Rattle.pawn_wire.proofs.worked.worked_targets.Goals as goal

pub returns-clause-targets : goal.returns-clause-targets
unfolding table_rows matchit_on_literals number_said day_said civil_after days_of_years days_of_months
returns-clause-targets c = (refl, refl, refl, refl, refl, refl, refl, refl, refl, refl, refl, refl)

pub returns-clause-none : goal.returns-clause-none
unfolding table_rows matchit_on_literals number_said day_said civil_after days_of_years days_of_months
returns-clause-none c = (refl, refl, refl, refl, refl, refl, refl, refl, refl, refl, refl, refl, refl, refl, refl)
