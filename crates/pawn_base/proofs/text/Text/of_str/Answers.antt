use Rattle.std.proofs.Common.{rules}
use Rattle.pawn_base.proofs.text.Text.of_str.Goals as goal

pub invariant_of-result : goal.invariant_of-result
invariant_of-result g c = search rules

pub returns-clause-succeeds : goal.returns-clause-succeeds
returns-clause-succeeds g c = search rules
