use Rattle.pawn_host.proofs.CrashLemmas.{host_after-append}
use Rattle.pawn_host.proofs.RunMore.{replies-append}
use Rattle.pawn_host.proofs.laws.runs_compose.Goals as goal

pub returns : goal.returns
returns c = record { law = λ h operator a b. (host_after-append h operator a b, replies-append h operator a b) }
