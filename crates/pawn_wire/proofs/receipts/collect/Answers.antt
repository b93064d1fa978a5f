use Rattle.pawn_wire.proofs.FieldLemmas.{no_span}
use Rattle.pawn_wire.proofs.ReceiptLemmas.{collect_hit, collect_other, collect_bad}
use Rattle.pawn_wire.proofs.receipts.collect.Goals.{then-is_named+in-Some+in_ok-push, else-is_named}
use Rattle.pawn_wire.specs.Receipts.{receipt_said}
use Rattle.std.proofs.Common.{Some, refl, sym, ap, ◌∙◌, inr}
use Rattle.pawn_wire.proofs.receipts.collect.Goals as goal

pub loop-field-preserved : goal.loop-field-preserved
loop-field-preserved c =
    elim c.if-is_named.branch [
      | then-is_named+in-Some+in_ok-push w ↦
          let hit =
          collect_hit c.args.fields.now.bytes.now c.args.fields.now.spans.now c.loop-field.field-index no_span c.loop-field-test.true
          c.loop-field.receipts.items w.in-Some.receipt (cc) c.loop-field.invariant (ap receipt_said (sym w.of.ensures) ∙ sym w.in-Some.ensures.value) in
          rw w.receipts-is (hit ∙ ap Some (sym w.in_ok-push.ensures.items))
      | else-is_named w ↦
          rw w.receipts-is (collect_other c.args.fields.now.bytes.now c.args.fields.now.spans.now c.loop-field.field-index no_span c.loop-field-test.true
          c.loop-field.receipts.items (cc) c.loop-field.invariant)
    ]

pub returns-in_default : goal.returns-in_default
returns-in_default c = record {
  all = inr (
    refl,
    collect_bad c.args.fields.now.bytes.now c.args.fields.now.spans.now c.loop-field.field-index no_span c.loop-field-test.true (cc)
        (ap receipt_said (sym c.of.ensures) ∙ sym c.receipt_of.ensures.value ∙ c.in_default.is),
  );
}
