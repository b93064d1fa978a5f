use Rattle.std.proofs.Common.{arith}
use Rattle.std.proofs.lemmas.Grind.{common_steps}
use Rattle.pawn_book.proofs.planning.plan.Goals as goal

pub returns-in-TakePledge-clause-reads : goal.returns-in-TakePledge-clause-reads
returns-in-TakePledge-clause-reads g c = grind (arith, common_steps)

pub returns-in-OnPledge-clause-reads : goal.returns-in-OnPledge-clause-reads
returns-in-OnPledge-clause-reads g c = grind (arith, common_steps)
