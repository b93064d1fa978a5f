use Rattle.std.proofs.Common.{rules}
use Rattle.pawn_pledge.proofs.parts.is_closed.Goals as goal

pub returns-else-parts : goal.returns-else-parts
returns-else-parts c = search rules
