use Rattle.pawn_table_keeper.proofs.Handings.{hands_after, hands_over, hands_unread}
use Rattle.pawn_table_keeper.proofs.SheetPages.{whole_page}
use Rattle.pawn_table_keeper.specs.Common.{get, Host, pledges_of, part_items, with_head, IsLinesPage, item_of}
use Rattle.pawn_table_keeper.specs.Common.{most_page_rows}
use Rattle.pawn_table_keeper.specs.Handing.{keeping_of}
use Rattle.pawn_tables.proofs.Basics.{nat_tests}
use Rattle.std.proofs.Common.{Err, Ok, ap, arith, length, map, refl, rules, sym, ◌<◌}
use Rattle.pawn_table_keeper.proofs.keeper.TableKeep.hand_headed.Goals as goal

pub returns-in_err-page : goal.returns-in_err-page
returns-in_err-page g c = record {
  hands = hands_unread (keeping_of g.S.Store) g.V.Visitor.step _ _ _
      (Err c.in_err-page.field-0.0) c.from_residual.result c.in_err-page.field-0.0 (λ h. with_head c.args.part (part_items c.args.part c.args.day
      (pledges_of (get h.books c.args.book)))) {P = λ h. Unit {0}} refl (search rules) c.in_err-page.ensures.states.reads c.in_err-page.ensures.states.errs;
}

pub returns-then-len-lt-PAGE_ROWS : goal.returns-then-len-lt-PAGE_ROWS
returns-then-len-lt-PAGE_ROWS g c =
    let short : length c.in_ok-page.page < most_page_rows = grind (arith, nat_tests, c.len.ensures.value, c.if-len-lt-PAGE_ROWS.true) in
    let lines = map (item_of c.args.part) c.in_ok-page.page in
    let told : Host → Type 0 = λ h. IsLinesPage c.args.part c.args.day 0 (pledges_of (get h.books c.args.book)) c.in_ok-page.page in
    record {
      hands = hands_after (keeping_of g.S.Store) g.V.Visitor.step _ _ _ _ _ (Ok c.hand_whole.result) (λ h. with_head c.args.part lines)
          (λ h. with_head c.args.part (part_items c.args.part c.args.day (pledges_of (get h.books c.args.book)))) {P = told} c.in_ok-page.ensures.states.reads
          (λ h one. ap (with_head c.args.part) (sym (whole_page c.args.part c.args.day (pledges_of (get h.books c.args.book)) c.in_ok-page.page one short)))
          (hands_over (keeping_of g.S.Store) g.V.Visitor.step c.lines_above.new.self c.args.visitor.now c.hand_whole.new.visitor
          (with_head c.args.part lines) c.hand_whole.result (rw c.as_slice.ensures.value at c.hand_whole.ensures.hands));
    }

pub returns : goal.returns
returns g c = let told : Host → Type 0 = λ h. IsLinesPage c.args.part c.args.day 0 (pledges_of (get h.books c.args.book)) c.in_ok-page.page in
    record {
      hands = hands_after (keeping_of g.S.Store) g.V.Visitor.step _ _ _ _ _ c.hand_counted.result (λ h. with_head c.args.part (part_items c.args.part c.args.day
          (pledges_of (get h.books c.args.book)))) (λ h. with_head c.args.part (part_items c.args.part c.args.day (pledges_of (get h.books c.args.book))))
          {P = told} c.in_ok-page.ensures.states.reads (λ h one. refl) c.hand_counted.ensures.hands;
    }
