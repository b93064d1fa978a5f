use Rattle.pawn_table_keeper.proofs.Walks.{Walked}
use Rattle.pawn_table_keeper.specs.Common.{get, pledges_of}
use Rattle.pawn_table_keeper.specs.Handing.{keeping_of}
use Rattle.pawn_table_keeper.proofs.keeper.TableKeepKeep.walk.Given as goal

abbrev pub invariant-loop-place : goal.invariant-loop-place
invariant-loop-place g l = Walked (keeping_of g.S.Store) g.V.Visitor.step (λ h. pledges_of (get h.books l.book)) l.fn.self l.self l.fn.visitor l.visitor l.place
