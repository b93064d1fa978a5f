use Rattle.httparse.specs.Grammar.{print_request, trim_ows}
use Rattle.std.proofs.Common.{refl}
use Rattle.pawn_wire.proofs.worked.worked_heads.Goals as goal

pub returns-clause-heads : goal.returns-clause-heads
unfolding print_request trim_ows
returns-clause-heads c = (
  refl,
  refl,
  record { len = refl; body = refl; closes = refl },
  refl,
  record { len = refl; body = refl; closes = refl },
)

pub returns-clause-lengths : goal.returns-clause-lengths
unfolding print_request trim_ows
returns-clause-lengths c = (refl, refl, refl, refl, refl, refl, refl, refl, refl, refl, refl, refl, refl)

pub returns-clause-connections : goal.returns-clause-connections
unfolding print_request trim_ows
returns-clause-connections c = (refl, refl, refl, refl, refl, refl, refl)
