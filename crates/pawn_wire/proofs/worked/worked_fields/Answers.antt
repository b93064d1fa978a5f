use Rattle.pawn_wire.specs.Named.{number_said}
use Rattle.std.proofs.Common.{refl}
use Rattle.uuid.proofs.OnLiterals.{uuid_on_literals}
use Rattle.pawn_wire.proofs.worked.worked_fields.Goals as goal

pub returns-clause-keys : goal.returns-clause-keys
unfolding uuid_on_literals number_said
returns-clause-keys c = (refl, refl, refl, refl, refl)

pub returns-clause-receipts : goal.returns-clause-receipts
unfolding uuid_on_literals number_said
returns-clause-receipts c = (refl, refl, refl, refl, refl, refl, refl, refl, refl, refl, refl, refl, refl)
