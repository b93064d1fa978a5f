use Rattle.pawn_table_keeper.proofs.Handings.{hands_after, hands_nothing, hands_over, hands_unread}
use Rattle.pawn_table_keeper.proofs.SheetPages.{some_items, some_page, whole_page}
use Rattle.pawn_table_keeper.specs.Common.{get, Host, pledges_of, part_items, window_items, window_sheet, with_head}
use Rattle.pawn_table_keeper.specs.Common.{IsLinesPage, item_of, most_page_rows}
use Rattle.pawn_table_keeper.specs.Handing.{keeping_of}
use Rattle.pawn_tables.proofs.Basics.{nat_tests}
use Rattle.std.proofs.Common.{Err, Ok, [], ap, arith, length, map, refl, rules, sym, ◌<◌, ◌∙◌, ◌≡◌, ◌≢◌}
use Rattle.pawn_book.specs.declared.sheet.SheetPart.TheVariants as part_of
use Rattle.pawn_table_keeper.proofs.keeper.TableKeep.hand_window.Goals as goal

pub returns-in_err-page : goal.returns-in_err-page
returns-in_err-page g c = record {
  hands = hands_unread (keeping_of g.S.Store) g.V.Visitor.step _ _ _
      (Err c.in_err-page.field-0.0) c.from_residual.result c.in_err-page.field-0.0 (λ h. window_sheet (pledges_of (get h.books c.args.book)) c.args.day
      c.args.window) {P = λ h. Unit {0}} refl (search rules) c.in_err-page.ensures.states.reads c.in_err-page.ensures.states.errs;
}

pub returns-then-is_empty : goal.returns-then-is_empty
returns-then-is_empty g c = let none : c.in_ok-page.page ≡ [] = search rules in
    let short = ap length none in
    let told : Host → Type 0 = λ h. IsLinesPage (part_of.Confirmed c.args.window) c.args.day 0 (pledges_of (get h.books c.args.book)) c.in_ok-page.page in
    record {
      hands = hands_nothing (keeping_of g.S.Store) g.V.Visitor.step c.args.self.now c.lines_above.new.self c.args.visitor.now
          (λ h. window_sheet (pledges_of (get h.books c.args.book)) c.args.day c.args.window) {P = told} c.in_ok-page.ensures.states.reads
          (λ h one. ap (window_items (part_of.Confirmed c.args.window)) (whole_page (part_of.Confirmed c.args.window) c.args.day
          (pledges_of (get h.books c.args.book)) c.in_ok-page.page one (omega (arith, short)) ∙ ap (map (item_of (part_of.Confirmed c.args.window))) none));
    }

pub returns-then-len-lt-PAGE_ROWS : goal.returns-then-len-lt-PAGE_ROWS
returns-then-len-lt-PAGE_ROWS g c =
    let short : length c.in_ok-page.page < most_page_rows = grind (arith, nat_tests, c.len.ensures.value, c.if-len-lt-PAGE_ROWS.true) in
    let page = c.in_ok-page.page in let lines = map (item_of (part_of.Confirmed c.args.window)) page in
    let some : page ≢ [] = search rules in
    let told : Host → Type 0 = λ h. IsLinesPage (part_of.Confirmed c.args.window) c.args.day 0 (pledges_of (get h.books c.args.book)) page in
    record {
      hands = hands_after (keeping_of g.S.Store) g.V.Visitor.step _ _ _ _
          _ (Ok c.hand_whole.result) (λ h. with_head (part_of.Confirmed c.args.window) lines) (λ h. window_sheet (pledges_of (get h.books
          c.args.book)) c.args.day c.args.window) {P = told} c.in_ok-page.ensures.states.reads (λ h one. sym (ap
          (window_items (part_of.Confirmed c.args.window))
          (whole_page (part_of.Confirmed c.args.window) c.args.day (pledges_of (get h.books c.args.book)) page one short) ∙ some_page (part_of.Confirmed
          c.args.window) page some)) (hands_over (keeping_of g.S.Store) g.V.Visitor.step c.lines_above.new.self c.args.visitor.now c.hand_whole.new.visitor
          (with_head (part_of.Confirmed c.args.window) lines) c.hand_whole.result (rw c.as_slice.ensures.value at c.hand_whole.ensures.hands));
    }

pub returns : goal.returns
returns g c = let page = c.in_ok-page.page in
    let some : page ≢ [] = search rules in
    let told : Host → Type 0 = λ h. IsLinesPage (part_of.Confirmed c.args.window) c.args.day 0 (pledges_of (get h.books c.args.book)) page in
    record {
      hands = hands_after (keeping_of g.S.Store) g.V.Visitor.step _ _ _ _ _ c.hand_counted.result
          (λ h. with_head (part_of.Confirmed c.args.window) (part_items (part_of.Confirmed c.args.window) c.args.day (pledges_of (get h.books c.args.book))))
          (λ h. window_sheet (pledges_of (get h.books c.args.book)) c.args.day c.args.window) {P = told} c.in_ok-page.ensures.states.reads (λ h one.
          sym (some_items (part_of.Confirmed c.args.window) c.args.day (pledges_of (get h.books c.args.book)) page some one)) c.hand_counted.ensures.hands;
    }
