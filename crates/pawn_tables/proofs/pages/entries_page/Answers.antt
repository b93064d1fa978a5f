use Rattle.pawn_tables.proofs.ListElementReads.{entries_page_shown, entries_page_unsound, entries_rising}
use Rattle.pawn_tables.proofs.NextEntries.{is_entries_page}
use Rattle.pawn_tables.proofs.ReadTexts.{READ_ENTRIES_PAGE, texts}
use Rattle.pawn_tables.proofs.Reading.{◌∙◌, get, state, pledge_in, entries_of, found, found_as}
use Rattle.pawn_tables.specs.Entries.{IsEntriesPage}
use Rattle.pawn_tables.proofs.pages.entries_page.Goals as goal

pub returns-clause-finds : goal.returns-clause-finds
returns-clause-finds g c = found _ _ _ _ _ c.read_entries.result _ READ_ENTRIES_PAGE.now (λ more. (texts more).from_is.2) c.in_ok-rows.ensures.lent.leaves
    (λ clean. rw (c.params-to_sql.ensures, c.params-to_sql-2.ensures, c.params-to_sql-3.ensures) at (c.in_ok-rows.ensures.shown clean)) (λ h st shown.
    let are = c.deref.ensures.value ∙ entries_page_shown _ _ h c.args.book c.args.number c.args.from _ st shown in
    let es = entries_of (pledge_in (get h.books c.args.book) c.args.number) in
    let page = is_entries_page c.args.from 0 es (entries_rising (state g.S.Store c.args.tx.now.conn.now)
    (state g.S.Store c.run_query.new.tx.conn.now) h c.args.book c.args.number c.args.from c.in_ok-rows.rows.items st) in
    found_as c.read_entries.result _ (IsEntriesPage c.args.from es) _ _ (c.read_entries.ensures.read _ are) page
    (entries_page_unsound h st.storable c.args.book c.args.number c.args.from))
