use Rattle.pawn_table_keeper.proofs.KeeperReads.{read_in}
use Rattle.pawn_table_keeper.proofs.keeper.TableKeepKeep.pledge.Goals as goal

pub returns : goal.returns
returns g c =
    let it = read_in g.S.Store (λ k. k.conn) _ _ _ c.pledge_of-pledge.result c.args.self.now.rests c.know_settled.ensures.settled
    c.transaction-tx.ensures.begun c.pledge_of-pledge.ensures.lent (rw c.get.ensures.value at c.pledge_of-pledge.ensures.finds)
    c.rollback.ensures.undone c.rollback.ensures.survives in
    record { reads = it.reads; reachable = c.pledge_of-pledge.ensures.reachable; errs = it.errs }
