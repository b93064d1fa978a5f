use Rattle.pawn_list_keeper.specs.Common.{Go, Handed}
use Rattle.std.proofs.Common.{take}
use Rattle.pawn_list_keeper.proofs.list_reads.hand_over.Given as goal

abbrev pub invariant-loop-item : goal.invariant-loop-item
invariant-loop-item g l = Handed g.V.Visitor.step l.fn.visitor (take l.item-index l.items) Go l.visitor
