use Rattle.std.proofs.Common.{rules}
use Rattle.pawn_saving.proofs.stored.length_within.Goals as goal

pub returns-then-branch-clause-reads : goal.returns-then-branch-clause-reads
returns-then-branch-clause-reads g c = search rules
