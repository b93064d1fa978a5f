use Rattle.pawn_table_keeper.proofs.Handings.{HandedTo}
use Rattle.pawn_table_keeper.specs.Common.{get, pledges_of, part_items, items_past}
use Rattle.pawn_table_keeper.specs.Handing.{keeping_of}
use Rattle.pawn_table_keeper.proofs.keeper.TableKeep.hand_part.Given as goal

abbrev pub invariant-loop-turn : goal.invariant-loop-turn
invariant-loop-turn g l = HandedTo (keeping_of g.S.Store) g.V.Visitor.step (λ h. part_items l.part l.day (pledges_of (get h.books l.book)))
    (λ n h. items_past l.part l.day n (pledges_of (get h.books l.book))) l.fn.self l.self l.fn.visitor l.visitor l.above l.turn
