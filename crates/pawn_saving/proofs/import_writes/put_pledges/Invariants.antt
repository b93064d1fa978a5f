use Rattle.pawn_saving.proofs.ImportWrites.{ArePledgesPut}
use Rattle.pawn_saving.proofs.Writing.{◌≡◌, state}
use Rattle.pawn_saving.proofs.import_writes.put_pledges.Given as goal

abbrev pub invariant-loop-pledge : goal.invariant-loop-pledge
invariant-loop-pledge g l = (l.tx.conn.ghost_name ≡ l.fn.tx.conn.ghost_name)
    × ArePledgesPut (state g.S.Store l.fn.tx.conn.now) (state g.S.Store l.tx.conn.now) l.book l.pledges l.pledge-index l.counted
