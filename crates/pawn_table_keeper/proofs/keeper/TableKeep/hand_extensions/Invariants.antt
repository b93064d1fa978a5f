use Rattle.pawn_table_keeper.proofs.PageHandings.{HandedPages}
use Rattle.pawn_table_keeper.specs.Common.{get, pledge_in, extensions_of}
use Rattle.pawn_table_keeper.specs.Handing.{keeping_of}
use Rattle.pawn_table_keeper.proofs.keeper.TableKeep.hand_extensions.Given as goal

abbrev pub invariant-loop-turn : goal.invariant-loop-turn
invariant-loop-turn g l = HandedPages (keeping_of g.S.Store) g.V.Visitor.step
    (λ h. extensions_of (pledge_in (get h.books l.book) l.number)) l.fn.self l.self l.fn.visitor l.visitor l.turn
