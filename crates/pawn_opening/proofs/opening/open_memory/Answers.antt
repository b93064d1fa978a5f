use Rattle.sqlite.proofs.Callers.{memory_is_clean}
use Rattle.pawn_opening.proofs.opening.open_memory.Goals as goal

pub returns-in-Ok-prepare-clause-opens : goal.returns-in-Ok-prepare-clause-opens
returns-in-Ok-prepare-clause-opens c = c.in-Ok-prepare.ensures.prepared.new_store (memory_is_clean c.prepare.new.conn) c.in-Ok.ensures.empty.2

pub returns-in-Err-clause-refused : goal.returns-in-Err-clause-refused
returns-in-Err-clause-refused c = c.in-Err.ensures.prepared.bare (memory_is_clean c.prepare.new.conn) c.in-Ok.ensures.empty.2
