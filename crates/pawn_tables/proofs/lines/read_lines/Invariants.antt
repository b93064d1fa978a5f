use Rattle.pawn_tables.proofs.RowReading.{ℕ, IsLineOf, line_cells, Line, AreReadTo}
use Rattle.pawn_tables.proofs.lines.read_lines.Given as goal

abbrev pub invariant-loop-row : goal.invariant-loop-row
invariant-loop-row l = AreReadTo (λ (place : ℕ) (x : Line). line_cells l.part x) (IsLineOf l.part) l.rows l.row-index l.lines
