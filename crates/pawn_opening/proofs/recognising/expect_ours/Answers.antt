use Rattle.std.proofs.Common.{rules}
use Rattle.pawn_opening.proofs.recognising.expect_ours.Goals as goal

pub returns-then-number-from-2 : goal.returns-then-number-from-2
returns-then-number-from-2 c = search rules
