use Rattle.std.proofs.Common.{rules}
use Rattle.pawn_tables.proofs.joining.pledges.agrees.Goals as goal

pub returns-then-end-ends : goal.returns-then-end-ends
returns-then-end-ends c = search rules
