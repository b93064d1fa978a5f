use Rattle.pawn_table_keeper.proofs.Handings.{hands_after, hands_ended, hands_item, hands_then, hands_unread}
use Rattle.pawn_table_keeper.specs.Common.{get, Host, pledges_of, part_head, part_items, SheetItem, with_head, Go, Stop}
use Rattle.pawn_table_keeper.specs.Handing.{keeping_of}
use Rattle.std.proofs.Common.{Err, List, Ok, [], ap, length, refl, rules, ◌∷◌, ◌∙◌, ◌≡◌}
use Rattle.pawn_table_keeper.proofs.keeper.TableKeep.hand_counted.Goals as goal

pub returns-in_err-count : goal.returns-in_err-count
returns-in_err-count g c = record {
  hands = hands_unread (keeping_of g.S.Store) g.V.Visitor.step _ _ _ (Err c.in_err-count.field-0.0) c.from_residual.result c.in_err-count.field-0.0
      (λ h. with_head c.args.part (part_items c.args.part c.args.day (pledges_of (get h.books c.args.book)))) {P = λ h. Unit {0}} refl
      (search rules) c.in_err-count.ensures.states.reads c.in_err-count.ensures.states.errs;
}

pub returns-in-Go : goal.returns-in-Go
returns-in-Go g c = let items : Host → List SheetItem = λ h. part_items c.args.part c.args.day (pledges_of (get h.books c.args.book)) in
    let heading = c.heading-heading.result in
    record {
      hands = hands_after (keeping_of g.S.Store) g.V.Visitor.step _ _ _ _ _ c.hand_part.result (λ h. heading ∷ items h) (λ h. with_head c.args.part (items h))
          {P = λ h. c.in_ok-count.count ≡ length (items h)} c.in_ok-count.ensures.states.reads (λ h count. ap (λ i. i ∷ items h)
          (c.heading-heading.ensures.value ∙ ap (part_head c.args.part) count))
          (hands_then (keeping_of g.S.Store) g.V.Visitor.step _ _ _ _ _ _ c.hand_part.result (λ h. heading ∷ []) items
          (hands_item (keeping_of g.S.Store) g.V.Visitor.step _ _ _ heading Go (rw c.in-Go.is at c.visit.ensures.steps)) c.hand_part.ensures.hands);
    }

pub returns-in-Stop : goal.returns-in-Stop
returns-in-Stop g c = let items : Host → List SheetItem = λ h. part_items c.args.part c.args.day (pledges_of (get h.books c.args.book)) in
    let heading = c.heading-heading.result in
    record {
      hands = hands_after (keeping_of g.S.Store) g.V.Visitor.step _ _ _ _ _ (Ok Stop) (λ h. heading ∷ items h) (λ h. with_head c.args.part (items h))
          {P = λ h. c.in_ok-count.count ≡ length (items h)} c.in_ok-count.ensures.states.reads (λ h count. ap (λ i. i ∷ items h)
          (c.heading-heading.ensures.value ∙ ap (part_head c.args.part) count))
          (hands_ended (keeping_of g.S.Store) g.V.Visitor.step _ _ _ _ (Ok Stop) (Ok Stop) (λ h. heading ∷ []) items
          (λ e. cc e) refl (hands_item (keeping_of g.S.Store) g.V.Visitor.step _ _ _ heading Stop (rw c.in-Stop.is at c.visit.ensures.steps)));
    }
