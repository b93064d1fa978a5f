use Rattle.pawn_tables.proofs.RowReading.{Extension, AreReadTo}
use Rattle.pawn_tables.specs.Rows.{extension_cells}
use Rattle.pawn_tables.proofs.list_decoding.read_extensions.Given as goal

abbrev pub invariant-loop-row : goal.invariant-loop-row
invariant-loop-row l = AreReadTo (extension_cells) (λ (e : Extension). Unit {0}) l.rows l.row-index l.extensions
