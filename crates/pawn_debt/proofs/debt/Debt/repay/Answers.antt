use Rattle.std.proofs.Common.{rules}
use Rattle.pawn_debt.proofs.debt.Debt.repay.Goals as goal

pub returns-then-pence-total-clause-answer : goal.returns-then-pence-total-clause-answer
returns-then-pence-total-clause-answer c = search rules

pub enter-requires-clause-few : goal.enter-requires-clause-few
enter-requires-clause-few c = search rules

pub returns-clause-answer : goal.returns-clause-answer
returns-clause-answer c = search rules
