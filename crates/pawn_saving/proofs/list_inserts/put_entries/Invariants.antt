use Rattle.pawn_saving.proofs.RowsInOrder.{ArePut}
use Rattle.pawn_saving.proofs.Writing.{map, take, ◌≡◌, state, entry_cells, under}
use Rattle.pawn_saving.proofs.list_inserts.put_entries.Given as goal

abbrev pub invariant-loop-entry : goal.invariant-loop-entry
invariant-loop-entry g l = (l.tx.conn.ghost_name ≡ l.fn.tx.conn.ghost_name) × ArePut 6 (state g.S.Store l.fn.tx.conn.now) (state g.S.Store l.tx.conn.now)
    (map (λ e. under l.book l.number (entry_cells e)) (take l.entry-index l.entries))
