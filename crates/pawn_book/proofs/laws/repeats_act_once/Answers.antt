use Rattle.pawn_book.proofs.LawLemmas.{repeat_told}
use Rattle.pawn_book.proofs.laws.repeats_act_once.Goals as goal

pub returns : goal.returns
returns c = record { law = repeat_told }
