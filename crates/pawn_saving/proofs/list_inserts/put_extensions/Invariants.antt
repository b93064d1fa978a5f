use Rattle.pawn_saving.proofs.RowsInOrder.{ArePut}
use Rattle.pawn_saving.proofs.Writing.{take, ◌+◌, ◌≡◌, state, extension_cells, placed_from, under}
use Rattle.pawn_saving.proofs.list_inserts.put_extensions.Given as goal

abbrev pub invariant-loop-extension : goal.invariant-loop-extension
invariant-loop-extension g l =
    (l.tx.conn.ghost_name ≡ l.fn.tx.conn.ghost_name) × (l.place ≡ l.from + l.extension-index) × ArePut 17 (state g.S.Store l.fn.tx.conn.now)
    (state g.S.Store l.tx.conn.now) (placed_from (λ place x. under l.book l.number (extension_cells place x)) l.from (take l.extension-index l.extensions))
