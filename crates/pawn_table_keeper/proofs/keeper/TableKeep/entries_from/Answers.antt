use Rattle.pawn_table_keeper.proofs.KeeperReads.{read_in, told}
use Rattle.pawn_table_keeper.proofs.keeper.TableKeep.entries_from.Goals as goal

pub returns : goal.returns
returns g c =
    told (read_in g.S.Store (λ k. k.conn) _ _ _ c.entries_page-page.result c.args.self.now.rests c.know_settled.ensures.settled c.transaction-tx.ensures.begun
    c.entries_page-page.ensures.lent
    (rw (c.get.ensures.value, c.get-2.ensures.value) at c.entries_page-page.ensures.finds) c.rollback.ensures.undone c.rollback.ensures.survives)
