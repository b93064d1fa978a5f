use Rattle.pawn_book.specs.Items.{items_of_pledge}
use Rattle.pawn_list_keeper.specs.Common.{Go, HandsOver, flat_map}
use Rattle.std.proofs.Common.{take}
use Rattle.pawn_list_keeper.proofs.row_items.hand_rows.Given as goal

abbrev pub invariant-loop-pledge : goal.invariant-loop-pledge
invariant-loop-pledge g l = HandsOver g.V.Visitor.step l.fn.visitor (flat_map items_of_pledge (take l.pledge-index l.pledges)) Go l.visitor
