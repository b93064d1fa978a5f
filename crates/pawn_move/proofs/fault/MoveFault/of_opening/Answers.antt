use Rattle.std.proofs.Common.{rules}
use Rattle.pawn_move.proofs.fault.MoveFault.of_opening.Goals as goal

pub returns-in-Memory-clause-value : goal.returns-in-Memory-clause-value
returns-in-Memory-clause-value c = search rules
