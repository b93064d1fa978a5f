use Rattle.pawn_list_keeper.proofs.HandLemmas.{visits_stopped, visits_more}
use Rattle.pawn_list_keeper.proofs.list_reads.hand.Goals as goal

pub returns-in-Stop : goal.returns-in-Stop
returns-in-Stop g c = record {
  visits = (
      visits_stopped g.V.Visitor.step c.args.visitor.now c.loop-item.visitor c.visit.new.self c.args.items.now c.loop-item.item-index c.item-item.result
      c.loop-item-test.true c.item-item.is c.loop-item.invariant (rw c.in-Stop.is at c.visit.ensures.steps));
}

pub loop-item-preserved : goal.loop-item-preserved
loop-item-preserved g c =
    visits_more g.V.Visitor.step c.args.visitor.now c.loop-item.visitor c.visit.new.self c.args.items.now c.loop-item.item-index c.item-item.result
    c.loop-item-test.true c.item-item.is c.loop-item.invariant (rw c.in-Go.is at c.visit.ensures.steps)
