use Rattle.pawn_table_keeper.specs.Common.{Go, IsUnsoundAt, Reads, flat_map, get}
use Rattle.pawn_table_keeper.specs.Exports.{AreKindPages, number_rows, numbers_from}
use Rattle.pawn_table_keeper.specs.Handing.{HandsRows, keeping_of}
use Rattle.pawn_tables.specs.Kinds.{row_kinds}
use Rattle.std.proofs.Common.{Ok, ◌≤◌}
use Rattle.pawn_table_keeper.proofs.keeper.TableKeep.hand_range.Given as goal

abbrev pub invariant-loop-step : goal.invariant-loop-step
invariant-loop-step g l = record {
  within : l.step ≤ 32;
  pages : Reads (keeping_of g.S.Store) l.fn.self l.self (λ h. AreKindPages row_kinds l.above (get h.books l.book) l.pages.items);
  handed : HandsRows (keeping_of g.S.Store) (IsUnsoundAt l.book) g.V.Visitor.step l.fn.self l.self l.fn.visitor l.visitor (Ok Go)
      (λ h. flat_map (number_rows (get h.books l.book)) (numbers_from l.above l.step));
}
