use Rattle.pawn_book.proofs.Reading.{reads_as}
use Rattle.pawn_table_keeper.proofs.KeeperReads.{known_then, read_in}
use Rattle.pawn_table_keeper.specs.Common.{get, pledge_in}
use Rattle.pawn_tables.proofs.SoundReads.{sound_briefs}
use Rattle.pawn_tables.specs.Common.{HasTermsOf}
use Rattle.pawn_table_keeper.proofs.keeper.TableKeepKeep.further_brief.Goals as goal

pub returns : goal.returns
returns g c = let it = read_in g.S.Store (λ k. k.conn) _ _ _ c.further_brief_in-brief.result c.args.self.now.rests c.know_settled.ensures.settled
    c.transaction-tx.ensures.begun c.further_brief_in-brief.ensures.lent (rw c.get.ensures.value at c.further_brief_in-brief.ensures.finds)
    c.rollback.ensures.undone c.rollback.ensures.survives in
    record {
      reads = reads_as it.reads (λ h found sound known. known_then c.further_brief_in-brief.result (HasTermsOf (get h.books c.args.book) c.args.known.now) _ _
          found known (sound_briefs h sound c.args.book c.args.number));
      errs = it.errs;
    }
