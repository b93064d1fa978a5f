use Rattle.pawn_table_keeper.proofs.KeeperReads.{read_in}
use Rattle.pawn_table_keeper.proofs.keeper.TableKeepKeep.confirmed_count.Goals as goal

pub returns : goal.returns
returns g c =
    read_in g.S.Store (λ k. k.conn) _ _ _ c.confirmed_in-count.result c.args.self.now.rests c.know_settled.ensures.settled c.transaction-tx.ensures.begun
    c.confirmed_in-count.ensures.lent (rw c.get.ensures.value at c.confirmed_in-count.ensures.finds) c.rollback.ensures.undone c.rollback.ensures.survives
