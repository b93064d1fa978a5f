use Rattle.std.proofs.Common.{rules}
use Rattle.pawn_terms.proofs.terms.Rates.check.Goals as goal

pub returns-then-self-clause-value : goal.returns-then-self-clause-value
returns-then-self-clause-value c = search rules
