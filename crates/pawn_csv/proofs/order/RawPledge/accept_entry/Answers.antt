use Rattle.std.proofs.Common.{rules}
use Rattle.pawn_csv.proofs.order.RawPledge.accept_entry.Goals as goal

pub returns-in-Ok : goal.returns-in-Ok
returns-in-Ok c = search rules
