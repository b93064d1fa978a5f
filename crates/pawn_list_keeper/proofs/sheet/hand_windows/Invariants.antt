use Rattle.pawn_list_keeper.specs.Common.{Go, HandsOver, flat_map, window_sheet, windows_below}
use Rattle.std.proofs.Common.{◌≤◌}
use Rattle.pawn_list_keeper.proofs.sheet.hand_windows.Given as goal

abbrev pub invariant-loop-window : goal.invariant-loop-window
invariant-loop-window g l = record {
  within : l.window ≤ 16;
  handed : HandsOver g.V.Visitor.step l.fn.visitor (flat_map (window_sheet l.pledges l.day) (windows_below l.window)) Go l.visitor;
}
