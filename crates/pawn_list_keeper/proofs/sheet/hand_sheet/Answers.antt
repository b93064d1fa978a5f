use Rattle.pawn_book.proofs.SheetLemmas.{hands_then, hands_stop}
use Rattle.pawn_list_keeper.specs.Common.{Stop, part_items, windows_sheet, with_head}
use Rattle.std.proofs.Common.{◌++◌}
use Rattle.pawn_book.specs.declared.sheet.SheetPart.TheVariants as part
use Rattle.pawn_list_keeper.proofs.sheet.hand_sheet.Goals as goal

pub returns-in-Stop : goal.returns-in-Stop
returns-in-Stop g c =
    let asked = with_head part.Asked (part_items part.Asked c.args.day c.args.pledges.now) in
    let ends = with_head part.Ends (part_items part.Ends c.args.day c.args.pledges.now) in
    record {
      hands = (
          hands_stop g.V.Visitor.step c.args.visitor.now c.hand_windows.new.visitor (windows_sheet c.args.pledges.now c.args.day) (asked ++ ends)
          (rw c.in-Stop.is at c.hand_windows.ensures.hands));
    }

pub returns-in-Stop-hand_headed : goal.returns-in-Stop-hand_headed
returns-in-Stop-hand_headed g c =
    let asked = with_head part.Asked (part_items part.Asked c.args.day c.args.pledges.now) in
    let ends = with_head part.Ends (part_items part.Ends c.args.day c.args.pledges.now) in
    let step = g.V.Visitor.step in
    record {
      hands = (hands_then step c.args.visitor.now c.hand_windows.new.visitor c.hand_headed.new.visitor (windows_sheet c.args.pledges.now c.args.day)
          (asked ++ ends) Stop (rw c.in-Go.is at c.hand_windows.ensures.hands)
          (hands_stop step c.hand_windows.new.visitor c.hand_headed.new.visitor asked ends (rw c.in-Stop-hand_headed.is at c.hand_headed.ensures.hands)));
    }

pub returns : goal.returns
returns g c =
    let asked = with_head part.Asked (part_items part.Asked c.args.day c.args.pledges.now) in
    let ends = with_head part.Ends (part_items part.Ends c.args.day c.args.pledges.now) in
    let step = g.V.Visitor.step in
    record {
      hands = (hands_then step c.args.visitor.now c.hand_windows.new.visitor c.hand_headed-2.new.visitor (windows_sheet c.args.pledges.now c.args.day)
          (asked ++ ends) c.hand_headed-2.result (rw c.in-Go.is at c.hand_windows.ensures.hands)
          (hands_then step c.hand_windows.new.visitor c.hand_headed.new.visitor c.hand_headed-2.new.visitor asked ends c.hand_headed-2.result
          (rw c.in-Go-hand_headed.is at c.hand_headed.ensures.hands) c.hand_headed-2.ensures.hands));
    }
