use Rattle.pawn_list_keeper.proofs.PartLemmas.{head_goes, head_stops}
use Rattle.pawn_list_keeper.proofs.sheet.hand_headed.Goals as goal

pub returns-in-Go : goal.returns-in-Go
returns-in-Go g c = record {
  hands = (head_goes g.V.Visitor.step c.args.visitor.now c.visit.new.self c.hand_part.new.visitor c.args.part c.args.day c.args.pledges.now
      c.heading-heading.result c.count_of.result c.hand_part.result c.heading-heading.ensures.value c.count_of.ensures.value
      (rw c.in-Go.is at c.visit.ensures.steps) c.hand_part.ensures.hands);
}

pub returns-in-Stop : goal.returns-in-Stop
returns-in-Stop g c = record {
  hands = (head_stops g.V.Visitor.step c.args.visitor.now c.args.visitor.now c.visit.new.self c.args.part c.args.day c.args.pledges.now
      c.heading-heading.result c.count_of.result c.heading-heading.ensures.value c.count_of.ensures.value (rw c.in-Stop.is at c.visit.ensures.steps));
}
