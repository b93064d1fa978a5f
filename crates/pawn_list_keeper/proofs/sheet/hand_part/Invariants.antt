use Rattle.pawn_list_keeper.specs.Common.{Go, HandsOver, part_items}
use Rattle.std.proofs.Common.{take}
use Rattle.pawn_list_keeper.proofs.sheet.hand_part.Given as goal

abbrev pub invariant-loop-pledge : goal.invariant-loop-pledge
invariant-loop-pledge g l = HandsOver g.V.Visitor.step l.fn.visitor (part_items l.part l.day (take l.pledge-index l.pledges)) Go l.visitor
