use Rattle.pawn_wire.specs.Common.{chars, civil_after, days_of_months, days_of_years, is_utf8}
use Rattle.pawn_wire.specs.Named.{day_said}
use Rattle.serde_json.proofs.OnLiterals.{serde_json_on_literals}
use Rattle.std.proofs.Common.{refl}
use Rattle.uuid.proofs.OnLiterals.{uuid_on_literals}
use Rattle.pawn_wire.proofs.worked.worked_bodies.Goals as goal

pub returns-clause-bodies : goal.returns-clause-bodies
unfolding uuid_on_literals is_utf8 chars serde_json_on_literals day_said civil_after days_of_years days_of_months
returns-clause-bodies c = (refl, refl, refl, refl, refl, refl, refl, refl, refl, refl)

pub returns-clause-commands : goal.returns-clause-commands
unfolding is_utf8 chars serde_json_on_literals day_said civil_after days_of_years days_of_months
returns-clause-commands c = (refl, refl, refl, refl, refl, refl, refl, refl, refl, refl, refl)
