use Rattle.pawn_table_keeper.proofs.KeeperReads.{read_in, told}
use Rattle.pawn_table_keeper.proofs.keeper.TableKeep.kind_above.Goals as goal

pub returns : goal.returns
returns g c =
    told (read_in g.S.Store (λ k. k.conn) _ _ _ c.kind_page-page.result c.args.self.now.rests c.know_settled.ensures.settled c.transaction-tx.ensures.begun
    c.kind_page-page.ensures.lent (rw c.get.ensures.value at c.kind_page-page.ensures.finds) c.rollback.ensures.undone c.rollback.ensures.survives)
