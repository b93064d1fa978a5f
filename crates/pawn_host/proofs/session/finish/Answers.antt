use Rattle.std.proofs.Common.{rules}
use Rattle.pawn_host.proofs.session.finish.Goals as goal

pub returns-in-AtEnd : goal.returns-in-AtEnd
returns-in-AtEnd g c = search rules
