use Rattle.pawn_tables.proofs.ListEndReads.{seq_shown}
use Rattle.pawn_tables.proofs.ReadTexts.{READ_LAST_SEQ, texts}
use Rattle.pawn_tables.proofs.Reading.{◌∙◌, found, found_is}
use Rattle.pawn_tables.proofs.list_ends.last_entry_number.Goals as goal

pub returns-clause-finds : goal.returns-clause-finds
returns-clause-finds g c = found _ _ _ _ _ c.first_number.result _ READ_LAST_SEQ.now (λ more. (texts more).last_seq_is.2) c.in_ok-rows.ensures.lent.leaves
    (λ clean. rw (c.params-to_sql.ensures, c.params-to_sql-2.ensures) at (c.in_ok-rows.ensures.shown clean)) (λ h st shown. found_is c.first_number.result _ _ _
    (c.first_number.ensures.read _ (c.deref.ensures.value ∙ seq_shown _ _ h c.args.book c.args.number _ st shown)) (λ bad. absurd (bad tt)))
