use Rattle.pawn_table_keeper.proofs.KeeperReads.{read_in}
use Rattle.pawn_table_keeper.proofs.keeper.TableKeepKeep.terms.Goals as goal

pub returns : goal.returns
returns g c =
    read_in g.S.Store (λ k. k.conn) _ _ _ c.terms_under-terms.result c.args.self.now.rests c.know_settled.ensures.settled c.transaction-tx.ensures.begun
    c.terms_under-terms.ensures.lent (rw c.get.ensures.value at c.terms_under-terms.ensures.finds) c.rollback.ensures.undone c.rollback.ensures.survives
