use Rattle.pawn_table_keeper.proofs.KeeperReads.{read_in, told}
use Rattle.pawn_table_keeper.proofs.keeper.TableKeep.windows_on.Goals as goal

pub returns : goal.returns
returns g c =
    told (read_in g.S.Store (λ k. k.conn) _ _ _ c.windows_in-windows.result c.args.self.now.rests c.know_settled.ensures.settled c.transaction-tx.ensures.begun
    c.windows_in-windows.ensures.lent (rw c.get.ensures.value at c.windows_in-windows.ensures.finds) c.rollback.ensures.undone c.rollback.ensures.survives)
