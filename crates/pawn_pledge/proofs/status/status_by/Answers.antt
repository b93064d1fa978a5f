use Rattle.std.proofs.Common.{rules}
use Rattle.pawn_pledge.proofs.status.status_by.Goals as goal

pub returns-then-is_small : goal.returns-then-is_small
returns-then-is_small c = search rules

pub returns-else-six : goal.returns-else-six
returns-else-six c = search rules

pub returns-then-count-2 : goal.returns-then-count-2
returns-then-count-2 c = search rules
