use Rattle.pawn_host.proofs.LawLemmas.{ambiguous_ends}
use Rattle.pawn_host.proofs.laws.ambiguous_ends.Goals as goal

pub returns : goal.returns
returns c = record { law = ambiguous_ends }
