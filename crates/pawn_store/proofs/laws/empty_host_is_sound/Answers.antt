use Rattle.pawn_store.proofs.Empty.{empty_sound}
use Rattle.pawn_store.proofs.laws.empty_host_is_sound.Goals as goal

pub returns : goal.returns
returns c = record { law = empty_sound }
