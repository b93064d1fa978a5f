use Rattle.pawn_tables.proofs.ListElementReads.{entry_shown, entry_unsound}
use Rattle.pawn_tables.proofs.ReadTexts.{READ_ENTRY, texts}
use Rattle.pawn_tables.proofs.Reading.{◌∙◌, found, found_is}
use Rattle.pawn_tables.proofs.list_elements.entry_in.Goals as goal

pub returns-clause-finds : goal.returns-clause-finds
returns-clause-finds g c = found _ _ _ _ _ c.first_entry.result _ READ_ENTRY.now (λ more. (texts more).entry_is.2) c.in_ok-rows.ensures.lent.leaves
    (λ clean. rw (c.params-to_sql.ensures, c.params-to_sql-2.ensures, c.params-to_sql-3.ensures) at (c.in_ok-rows.ensures.shown clean)) (λ h st shown. found_is
    c.first_entry.result _ _ _ (c.first_entry.ensures.read _ (c.deref.ensures.value ∙ entry_shown _ _ h c.args.book c.args.number c.args.seq _ st shown))
    (entry_unsound h st.storable c.args.book c.args.number c.args.seq))
