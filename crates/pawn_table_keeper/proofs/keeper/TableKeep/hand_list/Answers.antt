use Rattle.pawn_book.proofs.Reading.{reads_as, reads_none}
use Rattle.pawn_debt.specs.Limits.{most_entries}
use Rattle.pawn_book.specs.declared.items.RowItem.{RowItem}
use Rattle.pawn_table_keeper.proofs.Handings.{begins_at, ends_by, fails_at, goes_by, handed_past, stops_by}
use Rattle.pawn_table_keeper.proofs.RowHandings.{too_many_rows}
use Rattle.pawn_table_keeper.proofs.Walks.{errs_database}
use Rattle.pawn_table_keeper.specs.Common.{get, pledge_in, Host, Keeping, Reads, most_page_rows, page_end}
use Rattle.pawn_table_keeper.specs.Handing.{keeping_of}
use Rattle.pawn_tables.proofs.Basics.{nat_tests}
use Rattle.pawn_tables.proofs.ListItems.{all_left}
use Rattle.pawn_tables.specs.Kinds.{IsListPage, item_end, left_of_kind, kind_rows_if_any}
use Rattle.pawn_tables.specs.declared.kinds.RowKind.{RowKind}
use Rattle.std.proofs.Common.{Err, List, [], ap, arith, length, refl, rules, ℕ, ◌++◌, ◌+◌, ◌<◌, ◌∙◌, ◌≡◌, ◌≤◌, map-id}
use Rattle.pawn_table_keeper.proofs.keeper.TableKeep.hand_list.Goals as goal

abbrev listed : RowKind → ℕ → ℕ → Host → List RowItem
listed kind book number h = kind_rows_if_any kind (pledge_in (get h.books book) number)

abbrev left : RowKind → ℕ → ℕ → ℕ → Host → List RowItem
left kind book number n h = left_of_kind kind n (pledge_in (get h.books book) number)

told : {K : Type 0} {k : Keeping K} {now new : K} (kind : RowKind) (book number n : ℕ) (page : List RowItem)
    → Reads k now new (λ h. IsListPage kind n (pledge_in (get h.books book) number) page) → Reads k now new (λ h. (left kind book number n h ≡ page ++ left kind
    book number (page_end item_end n page) h) × (length page < most_page_rows → left kind book number (page_end item_end n page) h ≡ []))
told kind book number n page read = reads_as read
    (λ h one. (one.goes_on ∙ ap (λ l. l ++ left kind book number (page_end item_end n page) h) (map-id page), one.is_last))

pub loop-turn-init : goal.loop-turn-init
loop-turn-init g c = begins_at (keeping_of g.S.Store) g.V.Visitor.step (listed c.args.kind c.args.book c.args.number)
    (left c.args.kind c.args.book c.args.number) _ _ (λ h. all_left c.args.kind (pledge_in (get h.books c.args.book) c.args.number))

pub returns-in_err-page : goal.returns-in_err-page
returns-in_err-page g c = record {
  hands = fails_at (keeping_of g.S.Store) g.V.Visitor.step (listed c.args.kind c.args.book c.args.number) (left c.args.kind c.args.book c.args.number) {P = λ
      h. Unit {0}} _ _ _ _ _
      c.loop-turn.from c.loop-turn.turn c.loop-turn.invariant (Err c.in_err-page.field-0.0) c.from_residual.result c.in_err-page.field-0.0 refl
      (search rules) c.in_err-page.ensures.states.reads c.in_err-page.ensures.states.errs;
}

pub returns-in-Stop : goal.returns-in-Stop
returns-in-Stop g c = record {
  hands = stops_by (keeping_of g.S.Store) g.V.Visitor.step (listed c.args.kind c.args.book c.args.number) (left c.args.kind c.args.book c.args.number) _ _ _ _
      _ _ c.loop-turn.from
      (page_end item_end c.loop-turn.from c.in_ok-page.page.items) c.loop-turn.turn c.loop-turn.invariant c.in_ok-page.page.items (told c.args.kind
      c.args.book c.args.number c.loop-turn.from c.in_ok-page.page.items
      c.in_ok-page.ensures.states.reads) (rw (c.deref-rows.ensures.value, c.in-Stop.is) at c.hand_all.ensures.hands);
}

pub returns-then-rows-lt-PAGE_ROWS : goal.returns-then-rows-lt-PAGE_ROWS
returns-then-rows-lt-PAGE_ROWS g c =
    let short : length c.in_ok-page.page.items < most_page_rows = grind (arith, nat_tests, c.deref-rows.ensures.value, c.if-rows-lt-PAGE_ROWS.true) in
    record {
      hands = ends_by (keeping_of g.S.Store) g.V.Visitor.step (listed c.args.kind c.args.book c.args.number) (left c.args.kind c.args.book c.args.number) _ _
          _ _ _ _ c.loop-turn.from
          (page_end item_end c.loop-turn.from c.in_ok-page.page.items) c.loop-turn.turn c.loop-turn.invariant c.in_ok-page.page.items (told c.args.kind
          c.args.book c.args.number c.loop-turn.from c.in_ok-page.page.items
          c.in_ok-page.ensures.states.reads) short (rw (c.deref-rows.ensures.value, c.in-Go.is) at c.hand_all.ensures.hands);
    }

pub loop-turn-preserved : goal.loop-turn-preserved
loop-turn-preserved g c = let some : 1 ≤ length c.in_ok-page.page.items = grind (arith, nat_tests, c.deref-rows.ensures.value, c.if-rows-lt-PAGE_ROWS.false) in
    rw (c.in_ok-from.ensures.value, c.deref-rows.ensures.value)
    (goes_by (keeping_of g.S.Store) g.V.Visitor.step (listed c.args.kind c.args.book c.args.number) (left c.args.kind c.args.book c.args.number) _ _ _ _ _ _
    c.loop-turn.from
    (page_end item_end c.loop-turn.from c.in_ok-page.page.items) c.loop-turn.turn c.loop-turn.invariant c.in_ok-page.page.items (told c.args.kind c.args.book
    c.args.number c.loop-turn.from c.in_ok-page.page.items
    c.in_ok-page.ensures.states.reads) some (rw (c.deref-rows.ensures.value, c.in-Go.is) at c.hand_all.ensures.hands))

pub returns-in_err-from : goal.returns-in_err-from
returns-in_err-from g c = let is : c.from_residual-in_err-from.result ≡ Err c.in_err-from.field-0.0 = search rules in
    let some : 1 ≤ length c.in_ok-page.page.items = grind (arith, nat_tests, c.deref-rows.ensures.value, c.if-rows-lt-PAGE_ROWS.false) in
    let given = goes_by (keeping_of g.S.Store) g.V.Visitor.step (listed c.args.kind c.args.book c.args.number) (left c.args.kind c.args.book c.args.number) _
    _ _ _ _ _ c.loop-turn.from
    (page_end item_end c.loop-turn.from c.in_ok-page.page.items) c.loop-turn.turn c.loop-turn.invariant c.in_ok-page.page.items (told c.args.kind c.args.book
    c.args.number c.loop-turn.from c.in_ok-page.page.items
    c.in_ok-page.ensures.states.reads) some (rw (c.deref-rows.ensures.value, c.in-Go.is) at c.hand_all.ensures.hands) in
    record {
      hands = fails_at (keeping_of g.S.Store) g.V.Visitor.step (listed c.args.kind c.args.book c.args.number) (left c.args.kind c.args.book c.args.number) _ _
          _ _ _
          (page_end item_end c.loop-turn.from c.in_ok-page.page.items) (c.loop-turn.turn + 1) given c.from_residual-in_err-from.result
          c.from_residual-in_err-from.result c.in_err-from.field-0.0 is is (reads_none (keeping_of g.S.Store) _ (λ h. Unit {0}) (λ h. tt))
          (errs_database (keeping_of g.S.Store) _ _ c.from_residual-in_err-from.result (λ steady. steady) (is ∙ ap Err c.in_err-from.ensures.beyond));
    }

pub returns : goal.returns
returns g c = let above : most_entries < c.loop-turn.turn = grind (arith, nat_tests, c.loop-turn-test.false) in
    record {
      hands = handed_past (keeping_of g.S.Store) g.V.Visitor.step (listed c.args.kind c.args.book c.args.number) (left c.args.kind c.args.book c.args.number)
          most_entries
          (λ h. too_many_rows c.args.kind h c.args.book c.args.number) _ _ _ _ c.loop-turn.from c.loop-turn.turn (λ steady. steady) c.loop-turn.invariant above;
    }
