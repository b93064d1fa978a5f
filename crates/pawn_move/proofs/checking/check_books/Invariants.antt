use Rattle.pawn_move.proofs.Checked.{HasWalked}
use Rattle.pawn_move.proofs.CheckedUpto.{AreOwedUpto}
use Rattle.pawn_opening.specs.Common.{state}
use Rattle.std.proofs.Common.{◌≡◌}
use Rattle.pawn_move.proofs.checking.check_books.Given as goal

abbrev pub invariant-loop : goal.invariant-loop
invariant-loop g l =
    (l.tx.conn.ghost_name ≡ l.fn.tx.conn.ghost_name) × HasWalked (AreOwedUpto l.above) (state g.S.Store l.fn.tx.conn.now) (state g.S.Store l.tx.conn.now)
