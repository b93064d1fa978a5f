use Rattle.pawn_move.proofs.SchemaNumbers.{third_is_ours}
use Rattle.pawn_move.proofs.laws.the_third_is_ours.Goals as goal

pub returns : goal.returns
returns c = record { law = third_is_ours }
