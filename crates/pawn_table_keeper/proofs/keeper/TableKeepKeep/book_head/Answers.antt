use Rattle.pawn_table_keeper.proofs.KeeperReads.{read_in}
use Rattle.pawn_table_keeper.proofs.keeper.TableKeepKeep.book_head.Goals as goal

pub returns : goal.returns
returns g c = read_in g.S.Store (λ k. k.conn) _ _ _ c.head_in-head.result c.args.self.now.rests c.know_settled.ensures.settled c.transaction-tx.ensures.begun
    c.head_in-head.ensures.lent (rw c.get.ensures.value at c.head_in-head.ensures.finds) c.rollback.ensures.undone c.rollback.ensures.survives
