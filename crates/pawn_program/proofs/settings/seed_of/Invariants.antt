use Rattle.pawn_program.proofs.HexLemmas.{after_bytes}
use Rattle.pawn_program.specs.Settings.{hex_bytes}
use Rattle.std.proofs.Common.{◌≡◌, ◌*◌, length, take, drop}
use Rattle.pawn_program.proofs.settings.seed_of.Given as goal

abbrev pub invariant-loop-i : goal.invariant-loop-i
invariant-loop-i l = (length l.seed ≡ 32) × (hex_bytes l.text ≡ after_bytes (take l.i l.seed) (hex_bytes (drop (2 * l.i) l.text)))
