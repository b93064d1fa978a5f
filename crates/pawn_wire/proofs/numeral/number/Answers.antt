use Rattle.pawn_wire.proofs.DigitLemmas.{short_numeral, value_bound, value_more}
use Rattle.std.proofs.Common.{arith}
use Rattle.pawn_wire.proofs.numeral.number.Goals as goal

pub overflow_mul-number : goal.overflow_mul-number
overflow_mul-number c =
    let s = short_numeral c.args.text.now c.requires.numeral in
    let b = value_bound c.args.text.now c.loop-digit.digit-index s.0 (omega arith) in
    let e = c.loop-digit.invariant in
    omega (arith, e)

pub overflow_add-number : goal.overflow_add-number
overflow_add-number c =
    let s = short_numeral c.args.text.now c.requires.numeral in
    let b = value_bound c.args.text.now c.loop-digit.digit-index s.0 (omega arith) in
    let f = c.type_inv.text c.loop-digit.digit-index in
    omega (arith, c.loop-digit.invariant, f)

pub loop-digit-preserved : goal.loop-digit-preserved
loop-digit-preserved c =
    let s = short_numeral c.args.text.now c.requires.numeral in
    value_more c.args.text.now c.loop-digit.digit-index c.loop-digit.number c.from.result s.0 c.loop-digit-test.true c.loop-digit.invariant c.from.ensures
