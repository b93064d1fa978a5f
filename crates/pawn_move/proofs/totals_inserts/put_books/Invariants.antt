use Rattle.pawn_move.proofs.AllFilled.{AreFilledTo}
use Rattle.pawn_opening.specs.Common.{state}
use Rattle.std.proofs.Common.{◌≡◌}
use Rattle.pawn_move.proofs.totals_inserts.put_books.Given as goal

abbrev pub invariant-loop : goal.invariant-loop
invariant-loop g l = (l.tx.conn.ghost_name ≡ l.fn.tx.conn.ghost_name) × AreFilledTo l.above (state g.S.Store l.fn.tx.conn.now) (state g.S.Store l.tx.conn.now)
