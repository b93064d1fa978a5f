use Rattle.std.proofs.Common.{rules}
use Rattle.pawn_csv.proofs.row_writing.row_text.Goals as goal

pub returns-in-Ok-into_inner : goal.returns-in-Ok-into_inner
returns-in-Ok-into_inner c = search rules
