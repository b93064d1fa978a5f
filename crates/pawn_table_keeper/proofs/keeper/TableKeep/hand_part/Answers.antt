use Rattle.pawn_book.proofs.Reading.{reads_as}
use Rattle.pawn_book.specs.Limits.{most_pledges}
use Rattle.pawn_table_keeper.proofs.Handings.{ends_by, fails_at, goes_by, handed_past, stops_by}
use Rattle.pawn_table_keeper.proofs.TooMany.{too_many_lines}
use Rattle.pawn_table_keeper.specs.Common.{get, Host, Keeping, Reads, pledges_of, part_items, SheetPart, SheetItem}
use Rattle.pawn_table_keeper.specs.Common.{IsLinesPage, item_of, items_past, most_page_rows, page_end}
use Rattle.pawn_table_keeper.specs.Handing.{keeping_of}
use Rattle.pawn_tables.proofs.Basics.{nat_tests, length-map}
use Rattle.pawn_tables.specs.declared.line.Line.{Line}
use Rattle.std.proofs.Common.{Err, List, [], arith, length, map, refl, rules, ℕ, ◌++◌, ◌<◌, ◌≡◌, ◌≤◌}
use Rattle.pawn_table_keeper.proofs.keeper.TableKeep.hand_part.Goals as goal

abbrev listed : ℕ → ℕ → SheetPart → Host → List SheetItem
listed book day part h = part_items part day (pledges_of (get h.books book))

abbrev left : ℕ → ℕ → SheetPart → ℕ → Host → List SheetItem
left book day part n h = items_past part day n (pledges_of (get h.books book))

abbrev end : ℕ → List Line → ℕ
end n page = page_end (λ (l : Line). l.number) n page

told : {K : Type 0} {k : Keeping K} {now new : K} (book day : ℕ) (part : SheetPart) (n : ℕ) (page : List Line)
    → Reads k now new (λ h. IsLinesPage part day n (pledges_of (get h.books book)) page) → Reads k now new (λ h. (left book day part n h ≡ map
    (item_of part) page ++ left book day part (end n page) h) × (length page < most_page_rows → left book day part (end n page) h ≡ []))
told book day part n page read = reads_as read (λ h one. (one.goes_on, one.is_last))

pub returns-in_err-page : goal.returns-in_err-page
returns-in_err-page g c = record {
  hands = fails_at (keeping_of g.S.Store) g.V.Visitor.step (listed c.args.book c.args.day c.args.part) (left c.args.book c.args.day c.args.part)
      {P = λ h. Unit {0}} _ _ _ _ _ c.loop-turn.above c.loop-turn.turn c.loop-turn.invariant (Err c.in_err-page.field-0.0) c.from_residual.result
      c.in_err-page.field-0.0 refl (search rules) c.in_err-page.ensures.states.reads c.in_err-page.ensures.states.errs;
}

pub returns-in-Stop : goal.returns-in-Stop
returns-in-Stop g c = record {
  hands = stops_by (keeping_of g.S.Store) g.V.Visitor.step (listed c.args.book c.args.day c.args.part) (left c.args.book c.args.day c.args.part) _ _ _ _ _ _
      c.loop-turn.above (end c.loop-turn.above c.in_ok-page.page) c.loop-turn.turn c.loop-turn.invariant (map (item_of c.args.part) c.in_ok-page.page)
      (told c.args.book c.args.day c.args.part c.loop-turn.above c.in_ok-page.page c.in_ok-page.ensures.states.reads)
      (rw (c.as_slice.ensures.value, c.in-Stop.is) at c.hand_lines.ensures.hands);
}

pub returns-then-len-lt-PAGE_ROWS : goal.returns-then-len-lt-PAGE_ROWS
returns-then-len-lt-PAGE_ROWS g c =
    let short : length c.in_ok-page.page < most_page_rows = grind (arith, nat_tests, c.len.ensures.value, c.if-len-lt-PAGE_ROWS.true) in
    record {
      hands = ends_by (keeping_of g.S.Store) g.V.Visitor.step (listed c.args.book c.args.day c.args.part) (left c.args.book c.args.day c.args.part) _ _ _ _ _ _
          c.loop-turn.above (end c.loop-turn.above c.in_ok-page.page) c.loop-turn.turn c.loop-turn.invariant (map (item_of c.args.part) c.in_ok-page.page)
          (told c.args.book c.args.day c.args.part c.loop-turn.above c.in_ok-page.page c.in_ok-page.ensures.states.reads) short
          (rw (c.as_slice.ensures.value, c.in-Go.is) at c.hand_lines.ensures.hands);
    }

pub loop-turn-preserved : goal.loop-turn-preserved
loop-turn-preserved g c = let full : 1 ≤ length c.in_ok-page.page = grind (arith, nat_tests, c.len.ensures.value, c.if-len-lt-PAGE_ROWS.false) in
    let mapped = length-map c.in_ok-page.page (item_of c.args.part) in
    let some : 1 ≤ length (map (item_of c.args.part) c.in_ok-page.page) = omega (arith, full, mapped) in
    rw (c.behind_lines-above.ensures.value, c.as_slice-in-loop-turn.ensures.value)
    (goes_by (keeping_of g.S.Store) g.V.Visitor.step (listed c.args.book c.args.day c.args.part)
    (left c.args.book c.args.day c.args.part) _ _ _ _ _ _ c.loop-turn.above (end c.loop-turn.above c.in_ok-page.page) c.loop-turn.turn c.loop-turn.invariant
    (map (item_of c.args.part) c.in_ok-page.page) (told c.args.book c.args.day c.args.part c.loop-turn.above c.in_ok-page.page
    c.in_ok-page.ensures.states.reads) some (rw (c.as_slice.ensures.value, c.in-Go.is) at c.hand_lines.ensures.hands))

pub returns : goal.returns
returns g c = let above : most_pledges < c.loop-turn.turn = grind (arith, nat_tests, c.loop-turn-test.false) in
    record {
      hands =
          handed_past (keeping_of g.S.Store) g.V.Visitor.step (listed c.args.book c.args.day c.args.part) (left c.args.book c.args.day c.args.part) most_pledges
          (λ h. too_many_lines h c.args.book c.args.day c.args.part) _ _ _ _ c.loop-turn.above c.loop-turn.turn (λ steady. steady) c.loop-turn.invariant above;
    }
