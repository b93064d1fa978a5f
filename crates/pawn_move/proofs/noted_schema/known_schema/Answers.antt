use Rattle.std.proofs.Common.{rules}
use Rattle.pawn_move.proofs.noted_schema.known_schema.Goals as goal

pub returns : goal.returns
returns c = search rules
