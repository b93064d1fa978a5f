use Rattle.pawn_host.proofs.LawLemmas.{closed_wants_nothing, full_wants_nothing}
use Rattle.pawn_host.proofs.laws.nothing_is_wanted.Goals as goal

pub returns : goal.returns
returns c = record { law = λ come requests rest. (closed_wants_nothing come requests, full_wants_nothing come requests rest) }
