use Rattle.std.proofs.Common.{arith}
use Rattle.std.proofs.lemmas.Grind.{elements}
use Rattle.pawn_pledge.proofs.pledge.Pledge.last_secret.Goals as goal

pub returns : goal.returns
returns c = grind (arith, elements)
