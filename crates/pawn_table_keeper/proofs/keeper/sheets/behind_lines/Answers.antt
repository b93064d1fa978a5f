use Rattle.std.proofs.Common.{rules}
use Rattle.pawn_table_keeper.proofs.keeper.sheets.behind_lines.Goals as goal

pub returns-in-Some : goal.returns-in-Some
returns-in-Some c = search rules
