use Rattle.pawn_host.proofs.LawLemmas.{split_is_front}
use Rattle.pawn_host.proofs.laws.split_is_front.Goals as goal

pub returns : goal.returns
returns c = record { law = split_is_front }
