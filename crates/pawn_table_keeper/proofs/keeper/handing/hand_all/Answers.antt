use Rattle.pawn_table_keeper.proofs.PageHandings.{page_goes, page_stops, page_whole}
use Rattle.pawn_table_keeper.specs.Common.{HandsOver, Go, Stop}
use Rattle.std.proofs.Common.{rules, subst, map-id}
use Rattle.pawn_table_keeper.proofs.keeper.handing.hand_all.Goals as goal

pub returns-in-Stop : goal.returns-in-Stop
returns-in-Stop g c = record {
  hands = (
      subst (λ xs. HandsOver g.V.Visitor.step c.args.visitor.now xs Stop c.visit.new.self) (map-id c.args.items.now)
      (page_stops g.V.Visitor.step (λ x. x) c.args.items.now c.args.visitor.now c.loop-item.visitor c.visit.new.self c.loop-item.item-index c.item-item.result
      c.loop-item-test.true c.item-item.is c.loop-item.invariant (rw c.in-Stop.is at c.visit.ensures.steps)));
}

pub loop-item-preserved : goal.loop-item-preserved
loop-item-preserved g c =
    page_goes g.V.Visitor.step (λ x. x) c.args.items.now c.args.visitor.now c.loop-item.visitor c.visit.new.self c.loop-item.item-index c.item-item.result
    c.loop-item-test.true c.item-item.is c.loop-item.invariant (rw c.in-Go.is at c.visit.ensures.steps)

pub returns : goal.returns
returns g c = record {
  hands = (subst (λ xs. HandsOver g.V.Visitor.step c.args.visitor.now xs Go c.loop-item.visitor) (map-id c.args.items.now) (page_whole g.V.Visitor.step
      (λ x. x) c.args.items.now c.args.visitor.now c.loop-item.visitor c.loop-item.item-index (search rules) c.loop-item.invariant));
}
