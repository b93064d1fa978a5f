use Rattle.pawn_tables.proofs.ReadTexts.{READ_EXTENSIONS, texts}
use Rattle.pawn_tables.proofs.Reading.{◌∙◌, extensions_shown, found, found_is}
use Rattle.pawn_tables.proofs.SoundReads.{extensions_unsound}
use Rattle.pawn_tables.proofs.queries.extensions_in.Goals as goal

pub returns-clause-finds : goal.returns-clause-finds
returns-clause-finds g c =
    found _ _ _ _ _ c.read_extensions.result _ READ_EXTENSIONS.now (λ more. (texts more).extensions_is.2) c.in_ok-rows.ensures.lent.leaves
    (λ clean. rw (c.params-to_sql.ensures, c.params-to_sql-2.ensures) at (c.in_ok-rows.ensures.shown clean))
    (λ h st shown. found_is c.read_extensions.result _ _ _ (c.read_extensions.ensures.read 1 _
    (c.deref.ensures.value ∙ extensions_shown _ _ h c.args.book c.args.number _ st shown)) (extensions_unsound h st.storable c.args.book c.args.number))
