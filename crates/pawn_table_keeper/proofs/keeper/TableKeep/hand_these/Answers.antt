use Rattle.pawn_table_keeper.proofs.Handings.{windows_end, windows_go}
use Rattle.pawn_table_keeper.specs.Common.{get, pledges_of, Stop}
use Rattle.pawn_table_keeper.specs.Handing.{keeping_of}
use Rattle.pawn_table_keeper.specs.Windows.{named_sheet}
use Rattle.std.proofs.Common.{Err, Ok, arith, refl, rules}
use Rattle.pawn_table_keeper.proofs.keeper.TableKeep.hand_these.Goals as goal

pub returns-in_err-hand_named : goal.returns-in_err-hand_named
returns-in_err-hand_named g c = record {
  hands = windows_end (keeping_of g.S.Store) g.V.Visitor.step
      (λ h. named_sheet c.args.windows.now (pledges_of (get h.books c.args.book)) c.args.day) c.args.self.now c.loop-window.self c.hand_named.new.self
      c.args.visitor.now c.loop-window.visitor c.hand_named.new.visitor c.loop-window.window c.loop-window.invariant.handed
      (Err c.in_err-hand_named.field-0.0) c.from_residual.result c.loop-window-test.true (λ e. cc e) (search rules) c.in_err-hand_named.ensures.hands;
}

pub returns-in-Stop : goal.returns-in-Stop
returns-in-Stop g c = record {
  hands = windows_end (keeping_of g.S.Store) g.V.Visitor.step (λ h. named_sheet c.args.windows.now (pledges_of (get h.books c.args.book)) c.args.day)
      c.args.self.now c.loop-window.self c.hand_named.new.self c.args.visitor.now c.loop-window.visitor c.hand_named.new.visitor c.loop-window.window
      c.loop-window.invariant.handed (Ok Stop) (Ok Stop) c.loop-window-test.true (λ e. cc e) refl (rw c.in-Stop.is at c.in_ok-hand_named.ensures.hands);
}

pub loop-window-preserved : goal.loop-window-preserved
loop-window-preserved g c = record {
  within = omega (arith, c.loop-window-test.true);
  handed = windows_go (keeping_of g.S.Store) g.V.Visitor.step (λ h. named_sheet c.args.windows.now (pledges_of (get h.books c.args.book)) c.args.day)
      c.args.self.now c.loop-window.self c.hand_named.new.self c.args.visitor.now c.loop-window.visitor c.hand_named.new.visitor c.loop-window.window
      c.loop-window.invariant.handed (rw c.in-Go.is at c.in_ok-hand_named.ensures.hands);
}
