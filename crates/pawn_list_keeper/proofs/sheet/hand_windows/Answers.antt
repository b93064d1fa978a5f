use Rattle.pawn_list_keeper.proofs.PartLemmas.{window_next, windows_stop}
use Rattle.pawn_list_keeper.specs.Common.{Go, Stop, window_sheet}
use Rattle.std.proofs.Common.{◌≤◌, ◌+◌, arith}
use Rattle.pawn_list_keeper.proofs.sheet.hand_windows.Goals as goal

pub returns-in-Stop : goal.returns-in-Stop
returns-in-Stop g c =
    let step = g.V.Visitor.step in
    let sheet = window_sheet c.args.pledges.now c.args.day in
    let window = c.loop-window.window in
    let within : window + 1 ≤ 16 = omega (arith, c.loop-window-test.true) in
    record {
      hands = (windows_stop step c.args.visitor.now c.hand_window.new.visitor sheet (window + 1) 16 within (window_next step c.args.visitor.now
          c.loop-window.visitor c.hand_window.new.visitor sheet window Stop c.loop-window.invariant.handed (rw c.in-Stop.is at c.hand_window.ensures.hands)));
    }

pub loop-window-preserved : goal.loop-window-preserved
loop-window-preserved g c = record {
  within = omega (arith, c.loop-window-test.true);
  handed = (window_next g.V.Visitor.step c.args.visitor.now c.loop-window.visitor c.hand_window.new.visitor
      (window_sheet c.args.pledges.now c.args.day) c.loop-window.window Go c.loop-window.invariant.handed (rw c.in-Go.is at c.hand_window.ensures.hands));
}
