use Rattle.pawn_table_keeper.specs.Common.{Handed, Go, item_of}
use Rattle.std.proofs.Common.{map, take}
use Rattle.pawn_table_keeper.proofs.keeper.handing.hand_lines.Given as goal

abbrev pub invariant-loop-line : goal.invariant-loop-line
invariant-loop-line g l = Handed g.V.Visitor.step l.fn.visitor (map (item_of l.part) (take l.line-index l.lines)) Go l.visitor
