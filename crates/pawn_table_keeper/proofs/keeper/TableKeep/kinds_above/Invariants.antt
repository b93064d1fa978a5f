use Rattle.pawn_base.specs.Lists.{Each}
use Rattle.pawn_table_keeper.specs.Common.{Reads, get}
use Rattle.pawn_table_keeper.specs.Handing.{keeping_of}
use Rattle.pawn_tables.specs.Kinds.{IsKindPage}
use Rattle.pawn_tables.specs.declared.ranges.KindPage.{KindPage}
use Rattle.std.proofs.Common.{map, take, ◌≡◌}
use Rattle.pawn_table_keeper.proofs.keeper.TableKeep.kinds_above.Given as goal

abbrev pub invariant-loop-index : goal.invariant-loop-index
invariant-loop-index g l = Reads (keeping_of g.S.Store) l.fn.self l.self (λ h. (map (λ (p : KindPage). p.kind) l.pages.items ≡ take l.index l.kinds)
    × Each (IsKindPage l.above (get h.books l.book)) l.pages.items)
