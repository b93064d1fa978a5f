use Rattle.pawn_saving.proofs.RowsInOrder.{ArePut}
use Rattle.pawn_saving.proofs.Writing.{take, ◌+◌, ◌∷◌, ◌≡◌, state, number, placed_from, terms_cells}
use Rattle.pawn_saving.proofs.list_inserts.put_versions.Given as goal

abbrev pub invariant-loop-rates : goal.invariant-loop-rates
invariant-loop-rates g l = (l.tx.conn.ghost_name ≡ l.fn.tx.conn.ghost_name) × (l.version ≡ 1 + l.rates-index) × ArePut 1 (state g.S.Store l.fn.tx.conn.now)
    (state g.S.Store l.tx.conn.now) (placed_from (λ version t. number l.book ∷ number version ∷ terms_cells t) 1 (take l.rates-index l.terms))
