use Rattle.std.proofs.Common.{rules}
use Rattle.pawn_book.proofs.openings.plan_again.Goals as goal

pub returns-clause-plans : goal.returns-clause-plans
returns-clause-plans g c = search rules
