use Rattle.pawn_wire.specs.Common.{header_bytes, list_any, str_eq_ignore_ascii_case}
use Rattle.pawn_wire.specs.Fields.{values_of}
use Rattle.std.proofs.Common.{◌≡◌, map, take}
use Rattle.pawn_wire.proofs.fields.Fields.has_value.Given as goal

abbrev pub invariant-loop-field : goal.invariant-loop-field
invariant-loop-field l =
    l.found ≡ list_any (λ v. str_eq_ignore_ascii_case v l.value) (values_of l.name (map (header_bytes l.self.bytes.now) (take l.field-index l.self.spans.now)))
