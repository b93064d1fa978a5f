use Rattle.pawn_table_keeper.specs.Common.{get, flat_map, pledges_of, windows_below, Go, IsUnsoundAt}
use Rattle.pawn_table_keeper.specs.Handing.{keeping_of, HandsRows}
use Rattle.pawn_table_keeper.specs.Windows.{named_sheet}
use Rattle.std.proofs.Common.{Ok, ◌≤◌}
use Rattle.pawn_table_keeper.proofs.keeper.TableKeep.hand_these.Given as goal

abbrev pub invariant-loop-window : goal.invariant-loop-window
invariant-loop-window g l = record {
  within : l.window ≤ 16;
  handed : HandsRows (keeping_of g.S.Store) (IsUnsoundAt l.book) g.V.Visitor.step l.fn.self l.self l.fn.visitor l.visitor (Ok Go)
      (λ h. flat_map (named_sheet l.windows (pledges_of (get h.books l.book)) l.day) (windows_below l.window));
}
