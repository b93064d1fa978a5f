use Rattle.pawn_move.proofs.Filled.{AreFilled}
use Rattle.pawn_opening.specs.Common.{state}
use Rattle.std.proofs.Common.{◌≡◌}
use Rattle.pawn_move.proofs.totals_inserts.put_book.Given as goal

abbrev pub invariant-loop-place : goal.invariant-loop-place
invariant-loop-place g l =
    (l.tx.conn.ghost_name ≡ l.fn.tx.conn.ghost_name) × AreFilled l.book l.place (state g.S.Store l.fn.tx.conn.now) (state g.S.Store l.tx.conn.now)
