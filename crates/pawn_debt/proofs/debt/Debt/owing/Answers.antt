use Rattle.std.proofs.Common.{rules}
use Rattle.pawn_debt.proofs.debt.Debt.owing.Goals as goal

pub returns : goal.returns
returns c = search rules
