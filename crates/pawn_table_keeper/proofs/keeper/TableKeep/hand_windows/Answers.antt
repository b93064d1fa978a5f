use Rattle.pawn_table_keeper.proofs.Handings.{hands_after, hands_unread}
use Rattle.pawn_table_keeper.proofs.SheetPages.{named_all}
use Rattle.pawn_table_keeper.specs.Common.{get, Host, pledges_of, windows_sheet, NamesWindows}
use Rattle.pawn_table_keeper.specs.Handing.{keeping_of}
use Rattle.pawn_table_keeper.specs.Windows.{named_sheets}
use Rattle.std.proofs.Common.{Err, refl, rules}
use Rattle.pawn_table_keeper.proofs.keeper.TableKeep.hand_windows.Goals as goal

pub returns-in_err-windows : goal.returns-in_err-windows
returns-in_err-windows g c = record {
  hands = hands_unread (keeping_of g.S.Store) g.V.Visitor.step _ _ _
      (Err c.in_err-windows.field-0.0) c.from_residual.result c.in_err-windows.field-0.0 (λ h. windows_sheet (pledges_of (get h.books c.args.book)) c.args.day)
      {P = λ h. Unit {0}} refl (search rules) c.in_err-windows.ensures.states.reads c.in_err-windows.ensures.states.errs;
}

pub returns : goal.returns
returns g c = let told : Host → Type 0 = λ h. NamesWindows c.args.day (pledges_of (get h.books c.args.book)) c.in_ok-windows.windows in
    record {
      hands = hands_after (keeping_of g.S.Store) g.V.Visitor.step _ _ _ _
          _ c.hand_these.result (λ h. named_sheets c.in_ok-windows.windows (pledges_of (get h.books c.args.book)) c.args.day)
          (λ h. windows_sheet (pledges_of (get h.books c.args.book)) c.args.day) {P = told} c.in_ok-windows.ensures.states.reads (λ h named.
          named_all c.args.day
          (pledges_of (get h.books c.args.book)) c.in_ok-windows.windows named) (rw c.as_slice.ensures.value at c.hand_these.ensures.hands);
    }
