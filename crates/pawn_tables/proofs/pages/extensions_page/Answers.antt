use Rattle.pawn_tables.proofs.ListPageReads.{extensions_page_shown, extensions_page_unsound}
use Rattle.pawn_tables.proofs.ReadTexts.{READ_EXTENSIONS_PAGE, texts}
use Rattle.pawn_tables.proofs.Reading.{◌+◌, ◌∙◌, found, found_is}
use Rattle.pawn_tables.proofs.pages.extensions_page.Goals as goal

pub returns-clause-finds : goal.returns-clause-finds
returns-clause-finds g c =
    found _ _ _ _ _ c.read_extensions.result _ READ_EXTENSIONS_PAGE.now (λ more. (texts more).extensions_page_is.2) c.in_ok-rows.ensures.lent.leaves
    (λ clean. rw (c.params-to_sql.ensures, c.params-to_sql-2.ensures, c.params-to_sql-3.ensures) at (c.in_ok-rows.ensures.shown clean))
    (λ h st shown. found_is c.read_extensions.result _ _ _ (c.read_extensions.ensures.read (c.args.behind + 1) _ (c.deref.ensures.value ∙ extensions_page_shown
    _ _ h c.args.book c.args.number c.args.behind _ st shown)) (extensions_page_unsound h st.storable c.args.book c.args.number c.args.behind))
