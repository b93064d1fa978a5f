use Rattle.std.proofs.Common.{rules}
use Rattle.pawn_wire.proofs.request.outline_by.Goals as goal

pub returns-in_default : goal.returns-in_default
returns-in_default c = search rules
