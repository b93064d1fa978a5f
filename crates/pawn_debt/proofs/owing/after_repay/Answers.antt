use Rattle.std.proofs.Common.{rules}
use Rattle.pawn_debt.proofs.owing.after_repay.Goals as goal

pub returns-clause-owed : goal.returns-clause-owed
returns-clause-owed c = search rules
