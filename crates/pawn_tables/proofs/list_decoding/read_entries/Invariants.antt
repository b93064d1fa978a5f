use Rattle.pawn_tables.proofs.RowReading.{ℕ, Entry, AreReadTo}
use Rattle.pawn_tables.specs.Rows.{entry_cells}
use Rattle.pawn_tables.proofs.list_decoding.read_entries.Given as goal

abbrev pub invariant-loop-row : goal.invariant-loop-row
invariant-loop-row l = AreReadTo (λ (place : ℕ) (e : Entry). entry_cells e) (λ (e : Entry). Unit {0}) l.rows l.row-index l.entries
