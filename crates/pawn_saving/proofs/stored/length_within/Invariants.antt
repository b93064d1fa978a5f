use Rattle.pawn_saving.proofs.StoredReads.{IsSoFar}
use Rattle.pawn_saving.proofs.Writing.{◌≡◌, get, state, pledge_in}
use Rattle.pawn_saving.specs.Stored.{length_in}
use Rattle.pawn_saving.proofs.stored.length_within.Given as goal

abbrev pub invariant-loop-length : goal.invariant-loop-length
invariant-loop-length g l = (l.tx.conn.ghost_name ≡ l.fn.tx.conn.ghost_name) × IsSoFar (state g.S.Store l.fn.tx.conn.now) (state g.S.Store l.tx.conn.now)
    (λ h. length_in l.list (pledge_in (get h.books l.book) l.number)) l.most l.length

abbrev pub decreases-loop-length : goal.decreases-loop-length
decreases-loop-length g l = l.length
