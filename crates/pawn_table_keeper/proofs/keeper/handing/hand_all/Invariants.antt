use Rattle.pawn_table_keeper.specs.Common.{Handed, Go}
use Rattle.std.proofs.Common.{map, take}
use Rattle.pawn_table_keeper.proofs.keeper.handing.hand_all.Given as goal

abbrev pub invariant-loop-item : goal.invariant-loop-item
invariant-loop-item g l = Handed g.V.Visitor.step l.fn.visitor (map (λ x. x) (take l.item-index l.items)) Go l.visitor
