use Rattle.pawn_table_keeper.specs.Common.{Go, HandsOver}
use Rattle.pawn_tables.specs.Kinds.{own_items}
use Rattle.std.proofs.Common.{take}
use Rattle.pawn_table_keeper.proofs.keeper.handing.hand_items.Given as goal

abbrev pub invariant-loop-item : goal.invariant-loop-item
invariant-loop-item g l = HandsOver g.V.Visitor.step l.fn.visitor (own_items l.number (take l.item-index l.items)) Go l.visitor
