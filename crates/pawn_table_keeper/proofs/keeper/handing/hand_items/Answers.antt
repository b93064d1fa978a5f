use Rattle.pawn_table_keeper.proofs.RowHandings.{item_goes, item_skips, item_stops}
use Rattle.pawn_table_keeper.specs.Common.{Go, HandsOver}
use Rattle.pawn_tables.specs.Kinds.{own_items}
use Rattle.pawn_book.specs.Items.{item_number}
use Rattle.std.proofs.Common.{[], length, sym, refl, rules, subst, take_all, ◌∙◌, ◌≡◌, ◌≤◌}
use Rattle.pawn_table_keeper.proofs.keeper.handing.hand_items.Goals.{else-get-number, then-get-number+in-Go}
use Rattle.pawn_table_keeper.proofs.keeper.handing.hand_items.Goals as goal

pub loop-item-init : goal.loop-item-init
loop-item-init g c = ([], (refl, refl), ([], refl, λ go whole. refl))

pub returns-in-Stop : goal.returns-in-Stop
returns-in-Stop g c = record {
  hands = item_stops g.V.Visitor.step c.args.number c.args.items.now c.loop-item.item-index c.item-item.result c.loop-item-test.true c.item-item.is
      c.args.visitor.now c.loop-item.visitor c.visit.new.self c.loop-item.invariant (sym c.number.ensures.value
      ∙ sym c.get.ensures.value ∙ c.if-get-number.true) (rw c.in-Stop.is at c.visit.ensures.steps);
}

pub loop-item-preserved : goal.loop-item-preserved
loop-item-preserved g c = elim c.if-get-number.branch [
  | then-get-number+in-Go w ↦ rw w.visitor-is (item_goes g.V.Visitor.step c.args.number c.args.items.now c.loop-item.item-index c.item-item.result
      c.loop-item-test.true c.item-item.is c.args.visitor.now c.loop-item.visitor w.visit.new.self c.loop-item.invariant (let is : item_number
      c.item-item.result
      ≡ c.args.number = sym c.number.ensures.value ∙ sym c.get.ensures.value ∙ w.if-get-number.true in is) (rw w.in-Go.is at w.visit.ensures.steps))
  | else-get-number w ↦ rw w.visitor-is (item_skips g.V.Visitor.step c.args.number c.args.items.now c.loop-item.item-index c.item-item.result
      c.loop-item-test.true c.item-item.is c.args.visitor.now c.loop-item.visitor c.loop-item.visitor c.loop-item.invariant
      (λ is. absurd (w.if-get-number.false (c.get.ensures.value ∙ c.number.ensures.value ∙ is))))
]

pub returns : goal.returns
returns g c = record {
  hands = subst (λ xs. HandsOver g.V.Visitor.step c.args.visitor.now (own_items c.args.number xs) Go c.loop-item.visitor)
      (take_all c.loop-item.item-index c.args.items.now (let end : length c.args.items.now ≤ c.loop-item.item-index = search rules in end))
      c.loop-item.invariant;
}
