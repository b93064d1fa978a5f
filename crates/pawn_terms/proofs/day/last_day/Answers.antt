use Rattle.std.proofs.Common.{rules}
use Rattle.pawn_terms.proofs.day.last_day.Goals as goal

pub returns : goal.returns
returns c = search rules
