use Rattle.pawn_tables.proofs.ListEndReads.{last_unsound, last_word, secret_shown}
use Rattle.pawn_tables.proofs.ReadTexts.{READ_LAST_SECRET, texts}
use Rattle.pawn_tables.proofs.Reading.{◌∙◌, get, pledge_in, secrets_of, found, found_is}
use Rattle.pawn_tables.proofs.SoundReads.{words_in}
use Rattle.pawn_tables.proofs.list_ends.last_secret.Goals as goal

pub returns-clause-finds : goal.returns-clause-finds
returns-clause-finds g c = found _ _ _ _ _ c.first_last.result _ READ_LAST_SECRET.now (λ more. (texts more).last_secret_is.2) c.in_ok-rows.ensures.lent.leaves
    (λ clean. rw (c.params-to_sql.ensures, c.params-to_sql-2.ensures) at (c.in_ok-rows.ensures.shown clean)) (λ h st shown.
    let are = c.deref.ensures.value ∙ secret_shown _ _ h c.args.book c.args.number _ st shown in
    let words = last_word (secrets_of (pledge_in (get h.books c.args.book) c.args.number)) (words_in h st.storable c.args.book c.args.number) in
    found_is c.first_last.result _ _ _ (c.first_last.ensures.read _ words are) (last_unsound h st.storable c.args.book c.args.number))
