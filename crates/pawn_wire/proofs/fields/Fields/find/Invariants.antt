use Rattle.pawn_wire.specs.Common.{header_bytes}
use Rattle.pawn_wire.specs.Fields.{values_of, IsFound}
use Rattle.std.proofs.Common.{map, take}
use Rattle.pawn_wire.proofs.fields.Fields.find.Given as goal

abbrev pub invariant-loop-field : goal.invariant-loop-field
invariant-loop-field l = IsFound (values_of l.name (map (header_bytes l.self.bytes.now) (take l.field-index l.self.spans.now))) l.found
