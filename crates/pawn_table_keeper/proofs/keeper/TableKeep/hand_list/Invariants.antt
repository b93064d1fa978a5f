use Rattle.pawn_table_keeper.proofs.Handings.{HandedTo}
use Rattle.pawn_table_keeper.specs.Common.{get, pledge_in}
use Rattle.pawn_table_keeper.specs.Handing.{keeping_of}
use Rattle.pawn_tables.specs.Kinds.{left_of_kind, kind_rows_if_any}
use Rattle.pawn_table_keeper.proofs.keeper.TableKeep.hand_list.Given as goal

abbrev pub invariant-loop-turn : goal.invariant-loop-turn
invariant-loop-turn g l = HandedTo (keeping_of g.S.Store) g.V.Visitor.step (λ h. kind_rows_if_any l.kind (pledge_in (get h.books l.book) l.number))
    (λ n h. left_of_kind l.kind n (pledge_in (get h.books l.book) l.number)) l.fn.self l.self l.fn.visitor l.visitor l.from l.turn
