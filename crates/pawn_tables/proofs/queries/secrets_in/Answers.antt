use Rattle.pawn_tables.proofs.ReadTexts.{READ_SECRETS, texts}
use Rattle.pawn_tables.proofs.Reading.{◌∙◌, secrets_shown, found, found_is}
use Rattle.pawn_tables.proofs.SoundReads.{secrets_unsound, words_in}
use Rattle.pawn_tables.proofs.queries.secrets_in.Goals as goal

pub returns-clause-finds : goal.returns-clause-finds
returns-clause-finds g c = found _ _ _ _ _ c.read_secrets.result _ READ_SECRETS.now (λ more. (texts more).secrets_is.2) c.in_ok-rows.ensures.lent.leaves
    (λ clean. rw (c.params-to_sql.ensures, c.params-to_sql-2.ensures) at (c.in_ok-rows.ensures.shown clean))
    (λ h st shown. found_is c.read_secrets.result _ _ _ (c.read_secrets.ensures.read 1 _ (words_in h st.storable c.args.book c.args.number)
    (c.deref.ensures.value ∙ secrets_shown _ _ h c.args.book c.args.number _ st shown)) (secrets_unsound h st.storable c.args.book c.args.number))
