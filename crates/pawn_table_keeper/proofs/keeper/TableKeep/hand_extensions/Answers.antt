use Rattle.pawn_pledge.specs.Limits.{most_extensions}
use Rattle.pawn_pledge.specs.declared.record.Extension.{Extension}
use Rattle.pawn_table_keeper.proofs.Handings.{fails_at, handed_past}
use Rattle.pawn_table_keeper.proofs.PageHandings.{pages_end, pages_go, pages_stop}
use Rattle.pawn_table_keeper.proofs.TooMany.{too_many_extensions}
use Rattle.pawn_table_keeper.specs.Common.{get, pledge_in, Host, extensions_of, most_page_rows}
use Rattle.pawn_table_keeper.specs.Handing.{keeping_of}
use Rattle.pawn_tables.proofs.Basics.{nat_tests}
use Rattle.std.proofs.Common.{Err, List, arith, drop, length, refl, rules, ℕ, ◌*◌, ◌<◌, ◌≤◌}
use Rattle.pawn_table_keeper.proofs.keeper.TableKeep.hand_extensions.Goals as goal

abbrev listed : ℕ → ℕ → Host → List Extension
listed book number h = extensions_of (pledge_in (get h.books book) number)

pub returns-in_err-page : goal.returns-in_err-page
returns-in_err-page g c = record {
  hands = fails_at (keeping_of g.S.Store) g.V.Visitor.step (listed c.args.book c.args.number) (λ n h. drop n (listed c.args.book c.args.number h))
      {P = λ h. Unit {0}} _ _ _ _ _ (c.loop-turn.turn * 64) c.loop-turn.turn c.loop-turn.invariant (Err c.in_err-page.field-0.0) c.from_residual.result
      c.in_err-page.field-0.0 refl (search rules) c.in_err-page.ensures.states.reads c.in_err-page.ensures.states.errs;
}

pub returns-in-Stop : goal.returns-in-Stop
returns-in-Stop g c = record {
  hands = pages_stop (keeping_of g.S.Store) g.V.Visitor.step (listed c.args.book c.args.number) _ _ _ _ _ _ c.loop-turn.turn c.loop-turn.invariant
      c.in_ok-page.page c.in_ok-page.ensures.states.reads (rw (c.as_slice.ensures.value, c.in-Stop.is) at c.hand_all.ensures.hands);
}

pub returns-then-len-lt-PAGE_ROWS : goal.returns-then-len-lt-PAGE_ROWS
returns-then-len-lt-PAGE_ROWS g c =
    let short : length c.in_ok-page.page < most_page_rows = grind (arith, nat_tests, c.len.ensures.value, c.if-len-lt-PAGE_ROWS.true) in
    record {
      hands = pages_end (keeping_of g.S.Store) g.V.Visitor.step (listed c.args.book c.args.number) _ _ _ _ _ _ c.loop-turn.turn c.loop-turn.invariant
          c.in_ok-page.page c.in_ok-page.ensures.states.reads short (rw (c.as_slice.ensures.value, c.in-Go.is) at c.hand_all.ensures.hands);
    }

pub loop-turn-preserved : goal.loop-turn-preserved
loop-turn-preserved g c = let some : 1 ≤ length c.in_ok-page.page = grind (arith, nat_tests, c.len.ensures.value, c.if-len-lt-PAGE_ROWS.false) in
    pages_go (keeping_of g.S.Store) g.V.Visitor.step (listed c.args.book c.args.number) _ _ _ _ _ _ c.loop-turn.turn c.loop-turn.invariant c.in_ok-page.page
    c.in_ok-page.ensures.states.reads some (rw (c.as_slice.ensures.value, c.in-Go.is) at c.hand_all.ensures.hands)

pub returns : goal.returns
returns g c = let above : most_extensions < c.loop-turn.turn = grind (arith, nat_tests, c.loop-turn-test.false) in
    record {
      hands = handed_past (keeping_of g.S.Store) g.V.Visitor.step (listed c.args.book c.args.number)
          (λ n h. drop n (listed c.args.book c.args.number h)) most_extensions (λ h. too_many_extensions h c.args.book c.args.number) _ _ _ _
          (c.loop-turn.turn * 64) c.loop-turn.turn (λ steady. steady) c.loop-turn.invariant above;
    }
