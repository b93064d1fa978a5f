use Rattle.pawn_tables.proofs.RangeFinds.{kind_found, range_rows, range_unsound}
use Rattle.pawn_tables.proofs.RangeReads.{range_plain, range_shown}
use Rattle.pawn_tables.proofs.Reading.{◌∙◌, found}
use Rattle.pawn_tables.proofs.ListsOfRows.{finds_failed}
use Rattle.pawn_tables.specs.Common.{Host, IsUnsoundAt, get, state}
use Rattle.pawn_tables.specs.declared.kinds.RowKind.{RowKind}
use Rattle.pawn_tables.specs.declared.ranges.KindPage.{KindPage}
use Rattle.pawn_tables.specs.Kinds.{IsKindPage, range_text}
use Rattle.std.proofs.Common.{Ok, refl, rules, ℕ, ◌≡◌}
use Rattle.pawn_tables.proofs.ranges.kind_page.Goals as goal

abbrev told : ℕ → ℕ → RowKind → Host → KindPage → Type 0
told book above kind h page = (page.kind ≡ kind) × IsKindPage above (get h.books book) page

pub returns-clause-finds : goal.returns-clause-finds
returns-clause-finds g c =
    found {A = KindPage} (IsUnsoundAt c.args.book) _ _ _ _
    (Ok (record { kind = c.args.kind; items = c.in_ok-items.items; whole = c.whole_upto-whole.result })) (told c.args.book c.args.above c.args.kind)
    (range_text c.args.kind)
    (λ more. range_plain c.args.kind more) c.in_ok-rows.ensures.lent.leaves
    (λ clean. rw (c.params-to_sql.ensures, c.params-to_sql-2.ensures, c.params-to_sql-3.ensures, c.range_query.ensures.value) at (c.in_ok-rows.ensures.shown
    clean))
    (λ h st shown. let are = c.in_ok-items.ensures.read _ (range_rows (state g.S.Store c.args.tx.now.conn.now) (state g.S.Store c.run_query.new.tx.conn.now) h
    st c.args.book c.args.above c.saturating_add-upto.result c.args.kind)
    (c.deref.ensures.value ∙ range_shown h c.args.book c.args.above c.saturating_add-upto.result (state g.S.Store c.args.tx.now.conn.now) (state g.S.Store
    c.run_query.new.tx.conn.now) st _ c.args.kind shown) in (
      refl,
      λ n low high. kind_found (state g.S.Store c.args.tx.now.conn.now) (state g.S.Store c.run_query.new.tx.conn.now) h st c.args.book c.args.above
          c.saturating_add-upto.result c.args.kind n c.in_ok-items.items.items _ are
          (rw c.deref-2.ensures.value at c.whole_upto-whole.ensures.value) low high,
    ))

pub returns-in_err-items-clause-finds : goal.returns-in_err-items-clause-finds
returns-in_err-items-clause-finds g c =
    found _ _ _ _ _ c.from_residual-in_err-items.result (told c.args.book c.args.above c.args.kind) (range_text c.args.kind)
    (λ more. range_plain c.args.kind more) c.in_ok-rows.ensures.lent.leaves
    (λ clean. rw (c.params-to_sql.ensures, c.params-to_sql-2.ensures, c.params-to_sql-3.ensures, c.range_query.ensures.value) at (c.in_ok-rows.ensures.shown
    clean))
    (λ h st shown. finds_failed c.from_residual-in_err-items.result c.in_err-items.field-0.0 _ _ _ _ (search rules)
    (c.in_err-items.ensures.read _ (range_rows (state g.S.Store c.args.tx.now.conn.now) (state g.S.Store c.run_query.new.tx.conn.now) h st c.args.book
    c.args.above c.saturating_add-upto.result c.args.kind)
    (c.deref.ensures.value ∙ range_shown h c.args.book c.args.above c.saturating_add-upto.result (state g.S.Store c.args.tx.now.conn.now) (state g.S.Store
    c.run_query.new.tx.conn.now) st _ c.args.kind shown))
    (range_unsound h st.storable c.args.book c.args.above c.saturating_add-upto.result c.args.kind))
