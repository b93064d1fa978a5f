use Rattle.pawn_host.proofs.LawLemmas.{whole_requests_begin_a_split, split_goes_on}
use Rattle.pawn_host.proofs.laws.whole_requests_begin_a_split.Goals as goal

pub returns : goal.returns
returns c = record { law = λ s requests all e y. (whole_requests_begin_a_split s requests all e y, split_goes_on s requests all e y) }
