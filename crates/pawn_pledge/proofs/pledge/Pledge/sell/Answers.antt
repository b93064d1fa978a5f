use Rattle.std.proofs.Common.{rules}
use Rattle.pawn_pledge.proofs.pledge.Pledge.sell.Goals as goal

pub returns-then-net-gt-MOST_PENCE : goal.returns-then-net-gt-MOST_PENCE
returns-then-net-gt-MOST_PENCE c = search rules

pub returns : goal.returns
returns c = search rules
