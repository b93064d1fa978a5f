use Rattle.pawn_book.specs.Items.{items_of_pledge}
use Rattle.pawn_list_keeper.proofs.RowLemmas.{rows_front, rows_go, rows_stop}
use Rattle.std.proofs.Common.{Err, rules, ◌≡◌}
use Rattle.pawn_list_keeper.proofs.row_items.hand_rows.Goals as goal

pub returns-in_err-rows : goal.returns-in_err-rows
returns-in_err-rows g c = let is : c.from_residual.result ≡ Err c.in_err-rows.field-0.0 = search rules in
    record { visits = rw is (rows_front g.V.Visitor.step items_of_pledge c.args.pledges.now _ _ c.loop-pledge.pledge-index c.loop-pledge.invariant) }

pub returns-in-Stop : goal.returns-in-Stop
returns-in-Stop g c = record {
  visits = rows_stop g.V.Visitor.step items_of_pledge c.args.pledges.now _ _ c.loop-pledge.pledge-index c.loop-pledge.invariant _ c.pledge-item.result
      c.loop-pledge-test.true c.pledge-item.is (rw (c.deref.ensures.value, c.in_ok-rows.ensures.value, c.in-Stop.is) at c.hand_over.ensures.hands);
}

pub loop-pledge-preserved : goal.loop-pledge-preserved
loop-pledge-preserved g c = rows_go g.V.Visitor.step items_of_pledge c.args.pledges.now _ _ c.loop-pledge.pledge-index c.loop-pledge.invariant _
    c.pledge-item.result c.loop-pledge-test.true c.pledge-item.is
    (rw (c.deref.ensures.value, c.in_ok-rows.ensures.value, c.in-Go.is) at c.hand_over.ensures.hands)
