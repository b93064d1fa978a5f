use Rattle.pawn_host.proofs.ShardLemmas.{handed_splits, requests_are_placed, shards_answer_as_one}
use Rattle.pawn_host.proofs.laws.shards_answer_as_one.Goals as goal

pub returns : goal.returns
returns c = record { placed = requests_are_placed; as_one = shards_answer_as_one; splits = handed_splits }
