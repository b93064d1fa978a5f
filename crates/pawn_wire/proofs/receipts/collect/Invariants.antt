use Rattle.pawn_wire.specs.Common.{header_bytes}
use Rattle.pawn_wire.specs.Receipts.{all_said, receipt_values}
use Rattle.std.proofs.Common.{◌≡◌, Some, map, take}
use Rattle.pawn_wire.proofs.receipts.collect.Given as goal

abbrev pub invariant-loop-field : goal.invariant-loop-field
invariant-loop-field l = all_said (receipt_values (map (header_bytes l.fields.bytes.now) (take l.field-index l.fields.spans.now))) ≡ Some l.receipts.items
