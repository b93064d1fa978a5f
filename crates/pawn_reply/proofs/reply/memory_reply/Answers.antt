use Rattle.std.proofs.Common.{refl}
use Rattle.std.specs.Fmt.{digits}
use Rattle.pawn_reply.proofs.reply.memory_reply.Goals as goal

pub returns : goal.returns
unfolding digits
returns c = record { text = refl }
