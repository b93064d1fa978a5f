use Rattle.pawn_table_keeper.proofs.Handings.{HandedTo}
use Rattle.pawn_table_keeper.specs.Common.{get, pledge_in, entries_of}
use Rattle.pawn_table_keeper.specs.Handing.{keeping_of}
use Rattle.pawn_tables.specs.Entries.{entries_from}
use Rattle.pawn_table_keeper.proofs.keeper.TableKeep.hand_entries.Given as goal

abbrev pub invariant-loop-turn : goal.invariant-loop-turn
invariant-loop-turn g l = HandedTo (keeping_of g.S.Store) g.V.Visitor.step (λ h. entries_of (pledge_in (get h.books l.book) l.number))
    (λ n h. entries_from n (entries_of (pledge_in (get h.books l.book) l.number))) l.fn.self l.self l.fn.visitor l.visitor l.from l.turn
