use Rattle.std.proofs.Common.{rules}
use Rattle.pawn_debt.proofs.debt.Debt.draw.Goals as goal

pub after_draw-after-requires : goal.after_draw-after-requires
after_draw-after-requires c = search rules

pub returns-clause-answer : goal.returns-clause-answer
returns-clause-answer c = search rules

pub returns-then-owed-pence-clause-answer : goal.returns-then-owed-pence-clause-answer
returns-then-owed-pence-clause-answer c = search rules

pub enter-requires-clause-few : goal.enter-requires-clause-few
enter-requires-clause-few c = search rules
