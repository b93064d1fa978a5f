use Rattle.pawn_wire.proofs.FieldLemmas.{no_span, find_first, find_again, find_other}
use Rattle.pawn_wire.proofs.fields.Fields.find.Goals.{then-is_named+in-Missing, then-is_named+in_default, else-is_named}
use Rattle.pawn_wire.specs.Types.{Missing}
use Rattle.std.proofs.Common.{◌≡◌}
use Rattle.pawn_wire.proofs.fields.Fields.find.Goals as goal

-- src/fields.rt:22:5
pub loop-field-preserved : goal.loop-field-preserved
loop-field-preserved c =
    elim c.if-is_named.branch [
      | then-is_named+in-Missing w ↦ let i : c.loop-field.found ≡ Missing = w.in-Missing.is in
          rw w.found-is (find_first c.args.name.now c.args.self.now.bytes.now c.args.self.now.spans.now c.loop-field.field-index no_span c.loop-field-test.true
          w.of.result w.of.ensures (cc) (rw i at c.loop-field.invariant))
      | then-is_named+in_default w ↦
          rw w.found-is (find_again c.args.name.now c.args.self.now.bytes.now c.args.self.now.spans.now c.loop-field.field-index no_span c.loop-field-test.true
          c.loop-field.found (cc) c.loop-field.invariant w.in_default.not-Missing)
      | else-is_named w ↦
          rw w.found-is (find_other c.args.name.now c.args.self.now.bytes.now c.args.self.now.spans.now c.loop-field.field-index no_span c.loop-field-test.true
          c.loop-field.found (cc) c.loop-field.invariant)
    ]
