use Rattle.pawn_host.proofs.LawLemmas.{fault_is_exact}
use Rattle.pawn_host.proofs.laws.fault_is_exact.Goals as goal

pub returns : goal.returns
returns c = record { law = fault_is_exact }
