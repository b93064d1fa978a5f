use Rattle.std.proofs.Common.{rules}
use Rattle.pawn_debt.proofs.entry.Kind.first_principal.Goals as goal

pub returns-in-Running-clause-value : goal.returns-in-Running-clause-value
returns-in-Running-clause-value c = search rules
