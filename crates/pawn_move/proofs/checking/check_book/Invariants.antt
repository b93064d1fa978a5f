use Rattle.pawn_move.proofs.Checked.{HasWalked}
use Rattle.pawn_move.proofs.CheckedUpto.{AreOwedTo}
use Rattle.pawn_opening.specs.Common.{state}
use Rattle.std.proofs.Common.{◌≡◌}
use Rattle.pawn_move.proofs.checking.check_book.Given as goal

abbrev pub invariant-loop-place : goal.invariant-loop-place
invariant-loop-place g l =
    (l.tx.conn.ghost_name ≡ l.fn.tx.conn.ghost_name) × HasWalked (AreOwedTo l.book l.place) (state g.S.Store l.fn.tx.conn.now) (state g.S.Store l.tx.conn.now)
