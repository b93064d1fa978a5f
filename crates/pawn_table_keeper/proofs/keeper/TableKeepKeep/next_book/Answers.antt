use Rattle.pawn_table_keeper.proofs.KeeperReads.{read_in}
use Rattle.pawn_table_keeper.proofs.keeper.TableKeepKeep.next_book.Goals as goal

pub returns : goal.returns
returns g c = read_in g.S.Store (λ k. k.conn) _ _ _ c.next_in-next.result c.args.self.now.rests c.know_settled.ensures.settled c.transaction-tx.ensures.begun
    c.next_in-next.ensures.lent (rw c.bound-above.ensures.value at c.next_in-next.ensures.finds) c.rollback.ensures.undone c.rollback.ensures.survives
