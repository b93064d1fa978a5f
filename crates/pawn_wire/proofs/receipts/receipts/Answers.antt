use Rattle.pawn_wire.proofs.ReceiptLemmas.{few_said}
use Rattle.pawn_wire.specs.Common.{MOST_RECEIPTS}
use Rattle.pawn_wire.specs.Fields.{pairs_of}
use Rattle.pawn_wire.specs.Receipts.{receipt_values}
use Rattle.std.proofs.Common.{◌≡◌, ◌≤◌, arith, ◌∙◌, length}
use Rattle.pawn_wire.proofs.receipts.receipts.Goals as goal

pub returns : goal.returns
returns c =
    let not_none : length (receipt_values (pairs_of c.args.fields.now)) ≡ 0 → ⊥ = λ none. c.if-count-eq0.false (c.count-count.ensures.value ∙ none) in
    let not_many : length (receipt_values (pairs_of c.args.fields.now)) ≤ MOST_RECEIPTS =
    omega (arith, c.if-count-gt-MOST_RECEIPTS.false, c.count-count.ensures.value) in
    record {
      value = few_said _ c.in_ok-receipts.receipts.items c.new.result c.ok_or.result c.ok_or.ensures.value c.new.ensures.list c.new.ensures.some
          c.in_ok-receipts.ensures.all not_none not_many;
    }
