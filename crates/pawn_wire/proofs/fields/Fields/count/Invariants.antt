use Rattle.pawn_wire.specs.Common.{header_bytes}
use Rattle.pawn_wire.specs.Fields.{values_of}
use Rattle.std.proofs.Common.{◌≡◌, ◌≤◌, length, map, take}
use Rattle.pawn_wire.proofs.fields.Fields.count.Given as goal

abbrev pub invariant-loop-field : goal.invariant-loop-field
invariant-loop-field l =
    (l.count ≡ length (values_of l.name (map (header_bytes l.self.bytes.now) (take l.field-index l.self.spans.now)))) × (l.count ≤ l.field-index)
