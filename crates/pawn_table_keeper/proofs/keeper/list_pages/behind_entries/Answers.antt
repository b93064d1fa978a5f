use Rattle.std.proofs.Common.{rules}
use Rattle.pawn_table_keeper.proofs.keeper.list_pages.behind_entries.Goals as goal

pub returns-in-Ok-clause-value : goal.returns-in-Ok-clause-value
returns-in-Ok-clause-value c = search rules
