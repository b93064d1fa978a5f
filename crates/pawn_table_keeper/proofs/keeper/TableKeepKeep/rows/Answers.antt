use Rattle.pawn_table_keeper.proofs.KeeperReads.{read_in}
use Rattle.pawn_table_keeper.proofs.keeper.TableKeepKeep.rows.Goals as goal

pub returns : goal.returns
returns g c = read_in g.S.Store (λ k. k.conn) _ _ _ c.rows_in-count.result c.args.self.now.rests c.know_settled.ensures.settled c.transaction-tx.ensures.begun
    c.rows_in-count.ensures.lent c.rows_in-count.ensures.finds c.rollback.ensures.undone c.rollback.ensures.survives
