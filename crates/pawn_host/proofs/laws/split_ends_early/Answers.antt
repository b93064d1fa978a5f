use Rattle.pawn_host.proofs.LawLemmas.{none_in_stop}
use Rattle.pawn_host.proofs.laws.split_ends_early.Goals as goal

pub returns : goal.returns
returns c = record { law = none_in_stop }
