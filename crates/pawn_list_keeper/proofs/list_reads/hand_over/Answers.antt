use Rattle.pawn_list_keeper.proofs.HandLemmas.{hands_stopped, hands_whole, visits_more}
use Rattle.std.proofs.Common.{length, rules, ◌≤◌}
use Rattle.pawn_list_keeper.proofs.list_reads.hand_over.Goals as goal

pub returns-in-Stop : goal.returns-in-Stop
returns-in-Stop g c = record {
  hands = (
      hands_stopped g.V.Visitor.step c.args.visitor.now c.loop-item.visitor c.visit.new.self c.args.items.now c.loop-item.item-index c.item-item.result
      c.loop-item-test.true c.item-item.is c.loop-item.invariant (rw c.in-Stop.is at c.visit.ensures.steps));
}

pub loop-item-preserved : goal.loop-item-preserved
loop-item-preserved g c =
    visits_more g.V.Visitor.step c.args.visitor.now c.loop-item.visitor c.visit.new.self c.args.items.now c.loop-item.item-index c.item-item.result
    c.loop-item-test.true c.item-item.is c.loop-item.invariant (rw c.in-Go.is at c.visit.ensures.steps)

pub returns : goal.returns
returns g c = record {
  hands = hands_whole g.V.Visitor.step c.args.visitor.now c.loop-item.visitor c.args.items.now c.loop-item.item-index
      (let end : length c.args.items.now ≤ c.loop-item.item-index = search rules in end) c.loop-item.invariant;
}
