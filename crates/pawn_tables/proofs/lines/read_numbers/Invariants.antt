use Rattle.pawn_tables.proofs.RowReading.{ℕ, number_cells, AreReadTo}
use Rattle.pawn_tables.proofs.lines.read_numbers.Given as goal

abbrev pub invariant-loop-row : goal.invariant-loop-row
invariant-loop-row l = AreReadTo (λ (place : ℕ) (n : ℕ). number_cells n) (λ (n : ℕ). Unit {0}) l.rows l.row-index l.numbers
