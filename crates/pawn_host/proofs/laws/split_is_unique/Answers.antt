use Rattle.pawn_host.proofs.LawLemmas.{splits_unique}
use Rattle.pawn_host.proofs.laws.split_is_unique.Goals as goal

pub returns : goal.returns
returns c = record { law = splits_unique }
