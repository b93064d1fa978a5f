use Rattle.pawn_tables.proofs.ListItems.{entries_own, entries_page, entries_shown, entries_unsound, extensions_own}
use Rattle.pawn_tables.proofs.ListItems.{extensions_page, extensions_shown, extensions_unsound, items_found, secrets_own}
use Rattle.pawn_tables.proofs.ListItems.{secrets_page, secrets_shown, secrets_unsound}
use Rattle.pawn_tables.proofs.ReadTexts.{READ_ENTRIES_PAGE, READ_EXTENSIONS_PAGE, READ_SECRETS_PAGE, texts}
use Rattle.pawn_tables.proofs.Reading.{◌∙◌, found}
use Rattle.pawn_tables.specs.Common.{IsUnsoundAt, get, pledge_in, state}
use Rattle.pawn_tables.specs.Kinds.{IsListPage}
use Rattle.pawn_tables.specs.declared.kinds.RowKind.{RowKind}
use Rattle.pawn_tables.proofs.ranges.list_page.Goals as goal

pub returns-in_ok-secrets-in-Secret-clause-finds : goal.returns-in_ok-secrets-in-Secret-clause-finds
returns-in_ok-secrets-in-Secret-clause-finds g c =
    let old = state g.S.Store c.args.tx.now.conn.now in let rows = c.in_ok-secrets-in-Secret.secrets.items in
    let new = state g.S.Store c.run_query.new.tx.conn.now in
    rw c.in-Secret.is (found (IsUnsoundAt c.args.book) _ _ _ _ c.read_items.result (λ h page. IsListPage RowKind.Secret c.args.from (pledge_in (get h.books
    c.args.book) c.args.number) page.items) READ_SECRETS_PAGE.now (λ more. (texts more).secrets_page_is.2) c.in_ok-secrets-in-Secret.ensures.lent.leaves
    (λ clean. rw (c.params-to_sql.ensures, c.params-to_sql-in-Secret.ensures, c.params-to_sql-in-Secret-2.ensures, c.get-number.ensures.value) at
    (c.in_ok-secrets-in-Secret.ensures.shown clean)) (λ h st shown. items_found (λ page. page.items) c.read_items.result
    (IsListPage RowKind.Secret c.args.from (pledge_in (get h.books c.args.book) c.args.number))
    (c.read_items.ensures.read _ (secrets_own old new h c.args.book c.args.number c.args.from rows st)
    (c.deref.ensures.value ∙ secrets_shown old new h c.args.book c.args.number c.args.from rows st shown))
    (secrets_page old new h c.args.book c.args.number c.args.from rows st) (secrets_unsound old new h c.args.book c.args.number c.args.from rows st)))

pub returns-in_ok-entries-in-Entry-clause-finds : goal.returns-in_ok-entries-in-Entry-clause-finds
returns-in_ok-entries-in-Entry-clause-finds g c =
    let old = state g.S.Store c.args.tx.now.conn.now in let rows = c.in_ok-entries-in-Entry.entries.items in
    let new = state g.S.Store c.run_query-in-Entry.new.tx.conn.now in
    rw c.in-Entry.is (found (IsUnsoundAt c.args.book) _ _ _ _ c.read_items-in-Entry.result (λ h page. IsListPage RowKind.Entry c.args.from (pledge_in (get
    h.books
    c.args.book) c.args.number) page.items) READ_ENTRIES_PAGE.now (λ more. (texts more).from_is.2) c.in_ok-entries-in-Entry.ensures.lent.leaves
    (λ clean. rw (c.params-to_sql-in-Entry.ensures, c.params-to_sql-in-Entry-2.ensures, c.params-to_sql-in-Entry-3.ensures, c.get-number.ensures.value) at
    (c.in_ok-entries-in-Entry.ensures.shown clean)) (λ h st shown. items_found (λ page. page.items) c.read_items-in-Entry.result
    (IsListPage RowKind.Entry c.args.from (pledge_in (get h.books c.args.book) c.args.number))
    (c.read_items-in-Entry.ensures.read _ (entries_own old new h c.args.book c.args.number c.args.from rows st)
    (c.deref-in-Entry.ensures.value ∙ entries_shown old new h c.args.book c.args.number c.args.from rows st shown))
    (entries_page old new h c.args.book c.args.number c.args.from rows st) (entries_unsound old new h c.args.book c.args.number c.args.from rows st)))

pub returns-in_ok-extensions-in-Extension-clause-finds : goal.returns-in_ok-extensions-in-Extension-clause-finds
returns-in_ok-extensions-in-Extension-clause-finds g c =
    let old = state g.S.Store c.args.tx.now.conn.now in let rows = c.in_ok-extensions-in-Extension.extensions.items in
    let new = state g.S.Store c.run_query-in-Extension.new.tx.conn.now in
    rw c.in-Extension.is (found (IsUnsoundAt c.args.book) _ _ _ _ c.read_items-in-Extension.result (λ h page. IsListPage RowKind.Extension c.args.from
    (pledge_in (get h.books
    c.args.book) c.args.number) page.items) READ_EXTENSIONS_PAGE.now (λ more. (texts more).extensions_page_is.2)
    c.in_ok-extensions-in-Extension.ensures.lent.leaves
    (λ clean. rw (
      c.params-to_sql-in-Extension.ensures,
      c.params-to_sql-in-Extension-2.ensures,
      c.params-to_sql-in-Extension-3.ensures,
      c.get-number.ensures.value,
    ) at
    (c.in_ok-extensions-in-Extension.ensures.shown clean)) (λ h st shown. items_found (λ page. page.items) c.read_items-in-Extension.result
    (IsListPage RowKind.Extension c.args.from (pledge_in (get h.books c.args.book) c.args.number))
    (c.read_items-in-Extension.ensures.read _ (extensions_own old new h c.args.book c.args.number c.args.from rows st)
    (c.deref-in-Extension.ensures.value ∙ extensions_shown old new h c.args.book c.args.number c.args.from rows st shown))
    (extensions_page old new h c.args.book c.args.number c.args.from rows st) (extensions_unsound old new h c.args.book c.args.number c.args.from rows st)))
