use Rattle.std.proofs.Common.{rules}
use Rattle.pawn_debt.proofs.debt.Debt.of_entries.Goals as goal

pub invariant_of-result : goal.invariant_of-result
invariant_of-result c = search rules

pub returns-in-Some-clause-ok : goal.returns-in-Some-clause-ok
returns-in-Some-clause-ok c = search rules
