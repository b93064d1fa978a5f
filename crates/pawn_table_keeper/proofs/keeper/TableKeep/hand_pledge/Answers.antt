use Rattle.pawn_table_keeper.proofs.RowHandings.{each_end, each_go}
use Rattle.pawn_table_keeper.proofs.Handings.{hands_as}
use Rattle.pawn_table_keeper.specs.Common.{Stop, flat_map, get}
use Rattle.pawn_table_keeper.specs.Exports.{page_or_book_rows}
use Rattle.pawn_table_keeper.specs.Handing.{keeping_of}
use Rattle.std.proofs.Common.{Err, Ok, ap, length, refl, rules, take_all, ◌≤◌}
use Rattle.pawn_table_keeper.proofs.keeper.TableKeep.hand_pledge.Goals as goal

pub returns-in_err-hand_kind : goal.returns-in_err-hand_kind
returns-in_err-hand_kind g c = record {
  hands = each_end (keeping_of g.S.Store) g.V.Visitor.step (λ h. page_or_book_rows c.args.number (get h.books c.args.book)) c.args.pages.now _ _ _ _ _ _
      c.loop-page.page-index c.page-item.result c.loop-page-test.true c.page-item.is c.loop-page.invariant (Err c.in_err-hand_kind.field-0.0)
      c.from_residual.result (λ e. cc e) (search rules) c.in_err-hand_kind.ensures.hands;
}

pub returns-in-Stop : goal.returns-in-Stop
returns-in-Stop g c = record {
  hands = each_end (keeping_of g.S.Store) g.V.Visitor.step (λ h. page_or_book_rows c.args.number (get h.books c.args.book)) c.args.pages.now _ _ _ _ _ _
      c.loop-page.page-index c.page-item.result c.loop-page-test.true c.page-item.is c.loop-page.invariant (Ok Stop) (Ok Stop) (λ e. cc e) refl
      (rw c.in-Stop.is at c.in_ok-hand_kind.ensures.hands);
}

pub loop-page-preserved : goal.loop-page-preserved
loop-page-preserved g c =
    each_go (keeping_of g.S.Store) g.V.Visitor.step (λ h. page_or_book_rows c.args.number (get h.books c.args.book)) c.args.pages.now _ _ _ _ _ _
    c.loop-page.page-index c.page-item.result c.loop-page-test.true c.page-item.is c.loop-page.invariant (rw c.in-Go.is at c.in_ok-hand_kind.ensures.hands)

pub returns : goal.returns
returns g c = let end : length c.args.pages.now ≤ c.loop-page.page-index = search rules in
    record {
      hands = hands_as (keeping_of g.S.Store) g.V.Visitor.step _ _ _ _ _ _ _ (λ h. ap (flat_map (page_or_book_rows c.args.number (get h.books c.args.book)))
          (take_all c.loop-page.page-index c.args.pages.now end)) c.loop-page.invariant;
    }
