use Rattle.pawn_book.proofs.Reading.{reads_as, reads_none}
use Rattle.pawn_debt.specs.Limits.{most_entries}
use Rattle.pawn_debt.specs.declared.entry.Entry.{Entry}
use Rattle.pawn_table_keeper.proofs.Handings.{begins_at, ends_by, fails_at, goes_by, handed_past, stops_by}
use Rattle.pawn_table_keeper.proofs.TooMany.{too_many_entries}
use Rattle.pawn_table_keeper.proofs.Walks.{errs_database}
use Rattle.pawn_table_keeper.specs.Common.{get, pledge_in, Host, Keeping, Reads, entries_of, most_page_rows, page_end}
use Rattle.pawn_table_keeper.specs.Handing.{keeping_of}
use Rattle.pawn_tables.proofs.Basics.{nat_tests}
use Rattle.pawn_tables.proofs.NextEntries.{from_zero}
use Rattle.pawn_tables.specs.Entries.{IsEntriesPage, behind, entries_from}
use Rattle.std.proofs.Common.{Err, List, [], ap, arith, length, refl, rules, ℕ, ◌++◌, ◌+◌, ◌<◌, ◌∙◌, ◌≡◌, ◌≤◌, map-id}
use Rattle.pawn_table_keeper.proofs.keeper.TableKeep.hand_entries.Goals as goal

abbrev listed : ℕ → ℕ → Host → List Entry
listed book number h = entries_of (pledge_in (get h.books book) number)

abbrev left : ℕ → ℕ → ℕ → Host → List Entry
left book number n h = entries_from n (listed book number h)

told : {K : Type 0} {k : Keeping K} {now new : K} (n : ℕ) (page : List Entry) (all : Host → List Entry) → Reads k now new (λ h. IsEntriesPage n (all h) page)
    → Reads k now new (λ h. (entries_from n (all h) ≡ page ++ entries_from (page_end behind n page) (all h))
    × (length page < most_page_rows → entries_from (page_end behind n page) (all h) ≡ []))
told n page all read = reads_as read (λ h one. (one.goes_on ∙ ap (λ l. l ++ entries_from (page_end behind n page) (all h)) (map-id page), one.is_last))

pub loop-turn-init : goal.loop-turn-init
loop-turn-init g c = begins_at (keeping_of g.S.Store) g.V.Visitor.step (listed c.args.book c.args.number)
    (left c.args.book c.args.number) _ _ (λ h. from_zero (listed c.args.book c.args.number h))

pub returns-in_err-page : goal.returns-in_err-page
returns-in_err-page g c = record {
  hands = fails_at (keeping_of g.S.Store) g.V.Visitor.step (listed c.args.book c.args.number) (left c.args.book c.args.number) {P = λ h. Unit {0}} _ _ _ _ _
      c.loop-turn.from c.loop-turn.turn c.loop-turn.invariant (Err c.in_err-page.field-0.0) c.from_residual.result c.in_err-page.field-0.0 refl
      (search rules) c.in_err-page.ensures.states.reads c.in_err-page.ensures.states.errs;
}

pub returns-in-Stop : goal.returns-in-Stop
returns-in-Stop g c = record {
  hands = stops_by (keeping_of g.S.Store) g.V.Visitor.step (listed c.args.book c.args.number) (left c.args.book c.args.number) _ _ _ _ _ _ c.loop-turn.from
      (page_end behind c.loop-turn.from c.in_ok-page.page) c.loop-turn.turn c.loop-turn.invariant c.in_ok-page.page (told c.loop-turn.from c.in_ok-page.page
      (listed c.args.book c.args.number) c.in_ok-page.ensures.states.reads) (rw (c.as_slice.ensures.value, c.in-Stop.is) at c.hand_all.ensures.hands);
}

pub returns-then-len-lt-PAGE_ROWS : goal.returns-then-len-lt-PAGE_ROWS
returns-then-len-lt-PAGE_ROWS g c =
    let short : length c.in_ok-page.page < most_page_rows = grind (arith, nat_tests, c.len.ensures.value, c.if-len-lt-PAGE_ROWS.true) in
    record {
      hands = ends_by (keeping_of g.S.Store) g.V.Visitor.step (listed c.args.book c.args.number) (left c.args.book c.args.number) _ _ _ _ _ _ c.loop-turn.from
          (page_end behind c.loop-turn.from c.in_ok-page.page) c.loop-turn.turn c.loop-turn.invariant c.in_ok-page.page (told c.loop-turn.from c.in_ok-page.page
          (listed c.args.book c.args.number) c.in_ok-page.ensures.states.reads) short (rw (c.as_slice.ensures.value, c.in-Go.is) at c.hand_all.ensures.hands);
    }

pub loop-turn-preserved : goal.loop-turn-preserved
loop-turn-preserved g c = let some : 1 ≤ length c.in_ok-page.page = grind (arith, nat_tests, c.len.ensures.value, c.if-len-lt-PAGE_ROWS.false) in
    rw (c.in_ok-from.ensures.value, c.as_slice-in-loop-turn.ensures.value)
    (goes_by (keeping_of g.S.Store) g.V.Visitor.step (listed c.args.book c.args.number) (left c.args.book c.args.number) _ _ _ _ _ _ c.loop-turn.from
    (page_end behind c.loop-turn.from c.in_ok-page.page) c.loop-turn.turn c.loop-turn.invariant c.in_ok-page.page (told c.loop-turn.from c.in_ok-page.page
    (listed c.args.book c.args.number) c.in_ok-page.ensures.states.reads) some (rw (c.as_slice.ensures.value, c.in-Go.is) at c.hand_all.ensures.hands))

pub returns-in_err-from : goal.returns-in_err-from
returns-in_err-from g c = let is : c.from_residual-in_err-from.result ≡ Err c.in_err-from.field-0.0 = search rules in
    let some : 1 ≤ length c.in_ok-page.page = grind (arith, nat_tests, c.len.ensures.value, c.if-len-lt-PAGE_ROWS.false) in
    let given = goes_by (keeping_of g.S.Store) g.V.Visitor.step (listed c.args.book c.args.number) (left c.args.book c.args.number) _ _ _ _ _ _ c.loop-turn.from
    (page_end behind c.loop-turn.from c.in_ok-page.page) c.loop-turn.turn c.loop-turn.invariant c.in_ok-page.page (told c.loop-turn.from c.in_ok-page.page
    (listed c.args.book c.args.number) c.in_ok-page.ensures.states.reads) some (rw (c.as_slice.ensures.value, c.in-Go.is) at c.hand_all.ensures.hands) in
    record {
      hands = fails_at (keeping_of g.S.Store) g.V.Visitor.step (listed c.args.book c.args.number) (left c.args.book c.args.number) _ _ _ _ _
          (page_end behind c.loop-turn.from c.in_ok-page.page) (c.loop-turn.turn + 1) given c.from_residual-in_err-from.result
          c.from_residual-in_err-from.result c.in_err-from.field-0.0 is is (reads_none (keeping_of g.S.Store) _ (λ h. Unit {0}) (λ h. tt))
          (errs_database (keeping_of g.S.Store) _ _ c.from_residual-in_err-from.result (λ steady. steady) (is ∙ ap Err c.in_err-from.ensures.beyond));
    }

pub returns : goal.returns
returns g c = let above : most_entries < c.loop-turn.turn = grind (arith, nat_tests, c.loop-turn-test.false) in
    record {
      hands = handed_past (keeping_of g.S.Store) g.V.Visitor.step (listed c.args.book c.args.number) (left c.args.book c.args.number) most_entries
          (λ h. too_many_entries h c.args.book c.args.number) _ _ _ _ c.loop-turn.from c.loop-turn.turn (λ steady. steady) c.loop-turn.invariant above;
    }
