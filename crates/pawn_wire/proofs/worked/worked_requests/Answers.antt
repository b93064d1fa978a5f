use Rattle.matchit.proofs.OnLiterals.{matchit_on_literals}
use Rattle.pawn_wire.specs.Common.{chars, civil_after, days_of_months, days_of_years, is_utf8}
use Rattle.pawn_wire.specs.Named.{day_said, number_said}
use Rattle.pawn_wire.specs.Route.{table_rows}
use Rattle.serde_json.proofs.OnLiterals.{serde_json_on_literals}
use Rattle.std.proofs.Common.{refl}
use Rattle.uuid.proofs.OnLiterals.{uuid_on_literals}
use Rattle.pawn_wire.proofs.worked.worked_requests.Goals as goal

pub returns-clause-requests : goal.returns-clause-requests
unfolding table_rows matchit_on_literals number_said day_said civil_after days_of_years days_of_months uuid_on_literals
returns-clause-requests c = (refl, refl, refl, refl, refl, refl, refl)

pub returns-clause-order : goal.returns-clause-order
unfolding table_rows matchit_on_literals number_said day_said civil_after days_of_years days_of_months uuid_on_literals is_utf8 chars serde_json_on_literals
returns-clause-order c = (refl, refl, refl, refl, refl, refl, refl, refl, refl, refl, refl, refl, refl, refl, refl, refl)
