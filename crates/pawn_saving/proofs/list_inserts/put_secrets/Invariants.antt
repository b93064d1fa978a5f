use Rattle.pawn_saving.proofs.RowsInOrder.{ArePut}
use Rattle.pawn_saving.proofs.Writing.{take, ◌+◌, ◌≡◌, state, placed_from, secret_cells, under}
use Rattle.pawn_saving.proofs.list_inserts.put_secrets.Given as goal

abbrev pub invariant-loop-issued : goal.invariant-loop-issued
invariant-loop-issued g l = (l.tx.conn.ghost_name ≡ l.fn.tx.conn.ghost_name) × (l.place ≡ l.from + l.issued-index) × ArePut 8 (state g.S.Store l.fn.tx.conn.now)
    (state g.S.Store l.tx.conn.now) (placed_from (λ place x. under l.book l.number (secret_cells place x)) l.from (take l.issued-index l.secrets))
