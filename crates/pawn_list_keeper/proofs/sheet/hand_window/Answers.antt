use Rattle.pawn_list_keeper.proofs.HandLemmas.{hands_none}
use Rattle.pawn_list_keeper.proofs.PartLemmas.{length-filter_map, window_none, window_some}
use Rattle.pawn_list_keeper.specs.Common.{Go, HandsOver, SheetItem, part_item, part_items}
use Rattle.std.proofs.Common.{◌≡◌, ◌≢◌, ◌∙◌, List, length, sym, subst, arith}
use Rattle.std.proofs.lemmas.Bool.Decides.{nat_tests}
use Rattle.pawn_book.specs.declared.sheet.SheetPart.TheVariants as part
use Rattle.pawn_list_keeper.proofs.sheet.hand_window.Goals as goal

pub returns-then-count_of-eq0 : goal.returns-then-count_of-eq0
returns-then-count_of-eq0 g c =
    let own = part.Confirmed c.args.window in
    let items = part_items own c.args.day c.args.pledges.now in
    let none : length items ≡ 0 = length-filter_map (part_item own c.args.day) c.args.pledges.now ∙ sym c.count_of.ensures.value
    ∙ grind (arith, nat_tests, c.if-count_of-eq0.true) in
    record {
      hands = (
          subst (λ (is : List SheetItem). HandsOver g.V.Visitor.step c.args.visitor.now is Go c.args.visitor.now) (sym (window_none own items none))
          (hands_none g.V.Visitor.step c.args.visitor.now));
    }

pub returns : goal.returns
returns g c =
    let own = part.Confirmed c.args.window in
    let items = part_items own c.args.day c.args.pledges.now in
    let counted : c.count_of.result ≢ 0 = grind (arith, nat_tests, c.if-count_of-eq0.false) in
    let some : length items ≢ 0 = λ none. counted (c.count_of.ensures.value ∙ sym (length-filter_map (part_item own c.args.day) c.args.pledges.now) ∙ none) in
    record {
      hands = (subst (λ (is : List SheetItem). HandsOver g.V.Visitor.step c.args.visitor.now is c.hand_headed.result c.hand_headed.new.visitor)
          (sym (window_some own items some)) c.hand_headed.ensures.hands);
    }
