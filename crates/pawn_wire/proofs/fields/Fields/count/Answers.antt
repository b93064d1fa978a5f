use Rattle.pawn_wire.proofs.FieldLemmas.{no_span, count_hit, count_other}
use Rattle.pawn_wire.proofs.fields.Fields.count.Goals.{then-is_named, else-is_named}
use Rattle.std.proofs.Common.{arith, sym, ◌∙◌, ap, ◌+◌}
use Rattle.pawn_wire.proofs.fields.Fields.count.Goals as goal

pub loop-field-preserved : goal.loop-field-preserved
loop-field-preserved c =
    elim c.if-is_named.branch [
      | then-is_named w ↦
          let e = count_hit c.args.name.now c.args.self.now.bytes.now c.args.self.now.spans.now c.loop-field.field-index no_span c.loop-field-test.true (cc) in
          (rw w.count-is (ap (λ n. n + 1) c.loop-field.invariant.0 ∙ sym e), omega (arith, c.loop-field.invariant.1, w.count-is))
      | else-is_named w ↦
          let e =
          count_other c.args.name.now c.args.self.now.bytes.now c.args.self.now.spans.now c.loop-field.field-index no_span c.loop-field-test.true (cc) in
          (rw w.count-is (c.loop-field.invariant.0 ∙ sym e), omega (arith, c.loop-field.invariant.1, w.count-is))
    ]
