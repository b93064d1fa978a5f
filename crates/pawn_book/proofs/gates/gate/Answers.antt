use Rattle.std.proofs.Common.{rules}
use Rattle.pawn_book.proofs.gates.gate.Goals as goal

pub returns-then-eq-clause-reads : goal.returns-then-eq-clause-reads
returns-then-eq-clause-reads g c = search rules
