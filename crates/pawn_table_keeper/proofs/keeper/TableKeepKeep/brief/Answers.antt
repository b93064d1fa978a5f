use Rattle.pawn_book.proofs.Reading.{reads_as}
use Rattle.pawn_table_keeper.proofs.KeeperReads.{read_in}
use Rattle.pawn_tables.proofs.SoundReads.{sound_briefs}
use Rattle.std.proofs.Common.{IfOk, subst, ◌≡◌}
use Rattle.pawn_table_keeper.proofs.keeper.TableKeepKeep.brief.Goals as goal

pub returns : goal.returns
returns g c = let it = read_in g.S.Store (λ k. k.conn) _ _ _ c.brief_in-brief.result c.args.self.now.rests c.know_settled.ensures.settled
    c.transaction-tx.ensures.begun c.brief_in-brief.ensures.lent (rw c.get.ensures.value at c.brief_in-brief.ensures.finds) c.rollback.ensures.undone
    c.rollback.ensures.survives in
    record {
      reads = reads_as it.reads (λ h found sound. subst (λ b. IfOk c.brief_in-brief.result (λ brief. brief ≡ b))
          (sound_briefs h sound c.args.book c.args.number) found);
      errs = it.errs;
    }
