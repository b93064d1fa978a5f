use Rattle.pawn_wire.specs.Common.{digits_value}
use Rattle.std.proofs.Common.{◌≡◌, take}
use Rattle.pawn_wire.proofs.numeral.number.Given as goal

abbrev pub invariant-loop-digit : goal.invariant-loop-digit
invariant-loop-digit l = l.number ≡ digits_value 10 (take l.digit-index l.text)
