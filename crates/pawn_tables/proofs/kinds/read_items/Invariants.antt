use Rattle.pawn_book.specs.declared.items.RowItem.{RowItem}
use Rattle.pawn_tables.proofs.RowReading.{ℕ, AreReadTo}
use Rattle.pawn_tables.specs.Kinds.{IsRowOf, cells_of}
use Rattle.pawn_tables.proofs.kinds.read_items.Given as goal

abbrev pub invariant-loop-row : goal.invariant-loop-row
invariant-loop-row l = AreReadTo (λ (place : ℕ) (i : RowItem). cells_of l.given i) (IsRowOf l.kind l.given) l.rows l.row-index l.items.items
