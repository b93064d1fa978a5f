use Rattle.std.proofs.Common.{rules}
use Rattle.pawn_pledge.proofs.pledge.Pledge.hold.Goals as goal

pub returns-then-self-flag : goal.returns-then-self-flag
returns-then-self-flag c = search rules
