use Rattle.pawn_tables.proofs.Lent.{debts_of}
use Rattle.pawn_tables.proofs.ReadTexts.{READ_ENTRIES, texts}
use Rattle.pawn_tables.proofs.Reading.{◌∙◌, entries_shown, found_debts, found_is}
use Rattle.pawn_tables.proofs.SoundReads.{entries_unsound}
use Rattle.pawn_tables.proofs.queries.entries_in.Goals as goal

pub returns-clause-debts : goal.returns-clause-debts
returns-clause-debts g c = found_debts _ _ _ _ _ c.read_entries.result _ READ_ENTRIES.now (λ more. (texts more).entries_is.2) c.in_ok-rows.ensures.lent.leaves
    (λ clean. rw (c.params-to_sql.ensures, c.params-to_sql-2.ensures) at (c.in_ok-rows.ensures.shown clean))
    (λ h st shown. found_is c.read_entries.result _ _ _ (c.read_entries.ensures.read _
    (c.deref.ensures.value ∙ entries_shown _ _ h c.args.book c.args.number _ st shown)) (entries_unsound h st.storable c.args.book c.args.number))

pub returns-clause-finds : goal.returns-clause-finds
returns-clause-finds g c clean within h stood = returns-clause-debts g c clean within h (λ was_open. debts_of _ h (stood was_open))
