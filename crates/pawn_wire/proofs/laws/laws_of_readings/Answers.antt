use Rattle.pawn_wire.proofs.RequestLemmas.{reads_unique}
use Rattle.pawn_wire.proofs.WithinLemmas.{reads_within}
use Rattle.pawn_wire.proofs.laws.laws_of_readings.Goals as goal

pub returns-clause-unique : goal.returns-clause-unique
returns-clause-unique c = reads_unique

pub returns-clause-within : goal.returns-clause-within
returns-clause-within c = reads_within
