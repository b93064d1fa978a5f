use Rattle.pawn_pledge.proofs.Pushes.{AreDistinct-step}
use Rattle.std.proofs.Common.{sym, ◌∙◌}
use Rattle.pawn_pledge.proofs.parts.are_distinct.Goals as goal

pub loop-i-preserved : goal.loop-i-preserved
loop-i-preserved c =
    let s = AreDistinct-step c.args.issued.now c.loop-i.i c.index-issued-i.result c.loop-i-test.true c.index-issued-i.is
    (sym c.is_among.ensures.value ∙ c.if-is_among.false) in
    record { down = λ h. s.0 (c.loop-i.invariant.down h); back = λ h. c.loop-i.invariant.back (s.1 h) }
