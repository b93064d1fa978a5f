use Rattle.std.proofs.Common.{rules}
use Rattle.pawn_csv.proofs.order.begin.Goals as goal

pub returns : goal.returns
returns c = search rules
