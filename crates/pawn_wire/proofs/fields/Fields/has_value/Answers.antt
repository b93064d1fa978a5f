use Rattle.pawn_wire.proofs.FieldLemmas.{no_span, says_more}
use Rattle.pawn_wire.specs.Common.{str_eq_ignore_ascii_case}
use Rattle.std.proofs.Common.{◌||◌, sym, ◌∙◌}
use Rattle.pawn_wire.proofs.fields.Fields.has_value.Goals as goal

pub loop-field-preserved : goal.loop-field-preserved
loop-field-preserved c =
    (λ k. c.loop-field.invariant k || c.is_pair-found.ensures.value k) ∙ sym (says_more c.args.name.now c.args.self.now.bytes.now c.args.self.now.spans.now
    c.loop-field.field-index no_span c.loop-field-test.true (λ v. str_eq_ignore_ascii_case v c.args.value.now))
