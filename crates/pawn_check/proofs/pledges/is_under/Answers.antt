use Rattle.std.proofs.Common.{rules}
use Rattle.pawn_check.proofs.pledges.is_under.Goals as goal

pub returns-in-Some-clause-reads : goal.returns-in-Some-clause-reads
returns-in-Some-clause-reads g c = search rules
