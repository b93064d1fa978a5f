use Rattle.std.proofs.Common.{rules}
use Rattle.pawn_tables.proofs.cells.keeper_error.Goals as goal

pub returns-in-SqliteFailure-OutOfMemory-clause-out_of_memory : goal.returns-in-SqliteFailure-OutOfMemory-clause-out_of_memory
returns-in-SqliteFailure-OutOfMemory-clause-out_of_memory g c = search rules
