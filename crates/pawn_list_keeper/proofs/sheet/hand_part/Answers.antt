use Rattle.pawn_list_keeper.proofs.PartLemmas.{item_goes, item_skips, item_stops}
use Rattle.pawn_list_keeper.proofs.sheet.hand_part.Goals.{in-Some+in-Go, in_default}
use Rattle.pawn_list_keeper.specs.Common.{Go, HandsOver, part_item, part_items}
use Rattle.std.proofs.Common.{◌∙◌, ◌+◌, sym, subst, take}
use Rattle.pawn_list_keeper.proofs.sheet.hand_part.Goals as goal

pub returns-in-Stop : goal.returns-in-Stop
returns-in-Stop g c = record {
  hands = (item_stops g.V.Visitor.step (part_item c.args.part c.args.day) c.args.pledges.now c.loop-pledge.pledge-index c.pledge-item.result c.args.visitor.now
      c.loop-pledge.visitor c.in-Some.item c.visit.new.self c.loop-pledge-test.true c.pledge-item.is
      (sym c.item_of.ensures.value ∙ c.in-Some.is) c.loop-pledge.invariant (rw c.in-Stop.is at c.visit.ensures.steps));
}

pub loop-pledge-preserved : goal.loop-pledge-preserved
loop-pledge-preserved g c =
    let h = part_item c.args.part c.args.day in
    elim c.match-item_of.branch [
      | in-Some+in-Go w ↦
          subst (λ v. HandsOver g.V.Visitor.step c.args.visitor.now
          (part_items c.args.part c.args.day (take (c.loop-pledge.pledge-index + 1) c.args.pledges.now)) Go v) (sym w.visitor-is)
          (item_goes g.V.Visitor.step h c.args.pledges.now c.loop-pledge.pledge-index c.pledge-item.result c.args.visitor.now c.loop-pledge.visitor
          w.in-Some.item w.visit.new.self c.loop-pledge-test.true c.pledge-item.is (sym c.item_of.ensures.value ∙ w.in-Some.is) c.loop-pledge.invariant
          (rw w.in-Go.is at w.visit.ensures.steps))
      | in_default w ↦
          subst (λ v. HandsOver g.V.Visitor.step c.args.visitor.now
          (part_items c.args.part c.args.day (take (c.loop-pledge.pledge-index + 1) c.args.pledges.now)) Go v) (sym w.visitor-is)
          (item_skips g.V.Visitor.step h c.args.pledges.now c.loop-pledge.pledge-index c.pledge-item.result c.args.visitor.now c.loop-pledge.visitor
          c.loop-pledge-test.true c.pledge-item.is (sym c.item_of.ensures.value ∙ w.in_default.is) c.loop-pledge.invariant)
    ]
