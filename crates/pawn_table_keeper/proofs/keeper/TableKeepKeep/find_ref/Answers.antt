use Rattle.pawn_table_keeper.proofs.KeeperReads.{read_in}
use Rattle.pawn_table_keeper.proofs.keeper.TableKeepKeep.find_ref.Goals as goal

pub returns : goal.returns
returns g c = read_in g.S.Store
    (λ k. k.conn) _ _ _ c.ref_in-number.result c.args.self.now.rests c.know_settled.ensures.settled c.transaction-tx.ensures.begun c.ref_in-number.ensures.lent
    (rw (c.get.ensures.value, c.as_str-text.ensures.value) at c.ref_in-number.ensures.finds) c.rollback.ensures.undone c.rollback.ensures.survives
