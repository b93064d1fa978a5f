use Rattle.pawn_table_keeper.proofs.KeeperReads.{read_in, told}
use Rattle.pawn_table_keeper.proofs.keeper.TableKeep.extensions_behind.Goals as goal

pub returns : goal.returns
returns g c = told (read_in g.S.Store (λ k. k.conn) _ _ _ c.extensions_page-page.result c.args.self.now.rests c.know_settled.ensures.settled
    c.transaction-tx.ensures.begun c.extensions_page-page.ensures.lent
    (rw (c.get.ensures.value, c.get-2.ensures.value) at c.extensions_page-page.ensures.finds) c.rollback.ensures.undone c.rollback.ensures.survives)
