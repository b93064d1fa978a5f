use Rattle.std.proofs.Common.{refl}
use Rattle.pawn_terms.proofs.worked.worked_terms.Goals as goal

pub returns : goal.returns
returns c = record { terms = (refl, refl, refl, refl, refl, refl, refl, refl) }
