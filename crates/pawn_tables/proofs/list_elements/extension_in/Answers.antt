use Rattle.pawn_tables.proofs.ListElementReads.{extension_shown, extension_unsound}
use Rattle.pawn_tables.proofs.ReadTexts.{READ_EXTENSION, texts}
use Rattle.pawn_tables.proofs.Reading.{◌∙◌, found, found_is}
use Rattle.pawn_tables.proofs.list_elements.extension_in.Goals as goal

pub returns-clause-finds : goal.returns-clause-finds
returns-clause-finds g c = found _ _ _ _ _ c.first_extension.result _ READ_EXTENSION.now (λ more. (texts more).extension_is.2) c.in_ok-rows.ensures.lent.leaves
    (λ clean. rw (c.params-to_sql.ensures, c.params-to_sql-2.ensures, c.params-to_sql-3.ensures) at (c.in_ok-rows.ensures.shown clean))
    (λ h st shown. found_is c.first_extension.result _ _ _ (c.first_extension.ensures.read c.args.place _ (c.deref.ensures.value
    ∙ extension_shown _ _ h c.args.book c.args.number c.args.place _ st shown)) (extension_unsound h st.storable c.args.book c.args.number c.args.place))
