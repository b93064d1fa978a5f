use Rattle.std.proofs.Common.{rules}
use Rattle.pawn_base.proofs.rows.Rows.push.Goals as goal

pub returns-clause-ok : goal.returns-clause-ok
returns-clause-ok g c = search rules
