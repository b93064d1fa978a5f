use Rattle.std.proofs.Common.{refl, arith, codes}
use Rattle.std.specs.Fmt.{digits}
use Rattle.uuid.specs.Text.{by_index}
use Rattle.pawn_pledge.proofs.worked.worked_texts.Goals as goal

pub returns-clause-secrets : goal.returns-clause-secrets
unfolding by_index
returns-clause-secrets c = (refl, refl, refl, refl, refl, refl, refl, refl)

pub returns-clause-receipts : goal.returns-clause-receipts
unfolding by_index digits
returns-clause-receipts c = (
  refl,
  refl,
  ((omega arith, omega arith), (codes "da41597c-5157-488d-7724-e03fb8d84a37", refl, refl)),
  ((omega arith, omega arith), (codes "DA41597C5157488D7724E03FB8D84A37", refl, refl)),
)
