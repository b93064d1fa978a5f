use Rattle.pawn_host.proofs.LawLemmas.{items_unique}
use Rattle.pawn_host.proofs.laws.items_are_unique.Goals as goal

pub returns : goal.returns
returns c = record { law = items_unique }
