use Rattle.pawn_book.proofs.ShardLemmas.{handed_out_answers_as_one, hands_all, shards_answer_as_one}
use Rattle.pawn_book.proofs.laws.shards_answer_as_one.Goals as goal

pub returns : goal.returns
returns g c = record { as_one = shards_answer_as_one; handed = hands_all; handed_out = handed_out_answers_as_one _ }
