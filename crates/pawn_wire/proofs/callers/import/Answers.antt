use Rattle.std.proofs.Common.{rules}
use Rattle.pawn_wire.proofs.callers.import.Goals as goal

pub returns : goal.returns
returns c = search rules
