use Rattle.pawn_tables.proofs.ReadTexts.{READ_SECRET, texts}
use Rattle.pawn_tables.proofs.Reading.{◌∙◌, IsWord, found, found_is}
use Rattle.pawn_tables.proofs.SoundReads.{words_in}
use Rattle.pawn_tables.proofs.ListElementReads as reads
use Rattle.pawn_tables.proofs.list_elements.secret_in.Goals as goal

pub returns-clause-finds : goal.returns-clause-finds
returns-clause-finds g c = found _ _ _ _ _ c.first_issued.result _ READ_SECRET.now (λ more. (texts more).secret_is.2) c.in_ok-rows.ensures.lent.leaves
    (λ clean. rw (c.params-to_sql.ensures, c.params-to_sql-2.ensures, c.params-to_sql-3.ensures) at (c.in_ok-rows.ensures.shown clean))
    (λ h st shown. found_is c.first_issued.result _ _ _ (c.first_issued.ensures.read c.args.place _ (reads.at_each (λ i. IsWord i.secret) _ c.args.place
    (words_in h st.storable c.args.book c.args.number)) (c.deref.ensures.value ∙ reads.secret_shown _ _ h c.args.book c.args.number c.args.place _ st shown))
    (reads.secret_unsound h st.storable c.args.book c.args.number c.args.place))
