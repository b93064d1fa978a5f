use Rattle.pawn_table_keeper.proofs.KeeperReads.{read_in, told}
use Rattle.pawn_table_keeper.proofs.keeper.TableKeep.list_from.Goals as goal

pub returns : goal.returns
returns g c =
    told (read_in g.S.Store (λ k. k.conn) _ _ _ c.list_page-page.result c.args.self.now.rests c.know_settled.ensures.settled c.transaction-tx.ensures.begun
    c.list_page-page.ensures.lent (rw c.get.ensures.value at c.list_page-page.ensures.finds) c.rollback.ensures.undone c.rollback.ensures.survives)
