use Rattle.pawn_wire.specs.Common.{IsAscii}
use Rattle.std.proofs.Common.{arith}
use Rattle.std.proofs.lemmas.Grind.{common_steps}
use Rattle.std.proofs.lemmas.Str.{IsUtf8-from_ascii}
use Rattle.pawn_wire.proofs.target.target_of.Goals as goal

pub returns-in_default : goal.returns-in_default
returns-in_default c =
    let ascii : IsAscii c.args.target.now = ascii_found c in
    absurd (c.in_default.ensures.cases.0 (IsUtf8-from_ascii c.args.target.now ascii)) where
      ascii_found : (c : goal.In_default) → IsAscii c.args.target.now
      ascii_found c = grind (arith, common_steps)
