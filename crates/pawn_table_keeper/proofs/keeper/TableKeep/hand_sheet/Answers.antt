use Rattle.pawn_table_keeper.proofs.Handings.{hands_ended, hands_then}
use Rattle.pawn_table_keeper.specs.Common.{get, Host, pledges_of, part_items, windows_sheet, with_head, SheetPart, SheetItem}
use Rattle.pawn_table_keeper.specs.Common.{Stop}
use Rattle.pawn_table_keeper.specs.Handing.{keeping_of}
use Rattle.std.proofs.Common.{Err, List, Ok, refl, rules, ℕ, ◌++◌}
use Rattle.pawn_book.specs.declared.sheet.SheetPart.TheVariants as part_of
use Rattle.pawn_table_keeper.proofs.keeper.TableKeep.hand_sheet.Goals as goal

abbrev comes : ℕ → ℕ → Host → List SheetItem
comes book day h = windows_sheet (pledges_of (get h.books book)) day

abbrev headed : SheetPart → ℕ → ℕ → Host → List SheetItem
headed part book day h = with_head part (part_items part day (pledges_of (get h.books book)))

abbrev others : ℕ → ℕ → Host → List SheetItem
others book day h = headed part_of.Asked book day h ++ headed part_of.Ends book day h

pub returns-in_err-hand_windows : goal.returns-in_err-hand_windows
returns-in_err-hand_windows g c = record {
  hands = hands_ended (keeping_of g.S.Store) g.V.Visitor.step _ _ _ _ (Err c.in_err-hand_windows.field-0.0) c.from_residual.result
      (comes c.args.book c.args.day) (others c.args.book c.args.day) (λ e. cc e) (search rules) c.in_err-hand_windows.ensures.hands;
}

pub returns-in-Stop : goal.returns-in-Stop
returns-in-Stop g c = record {
  hands = hands_ended (keeping_of g.S.Store) g.V.Visitor.step _ _ _ _ (Ok Stop)
      (Ok Stop) (comes c.args.book c.args.day) (others c.args.book c.args.day) (λ e. cc e) refl (rw c.in-Stop.is at c.in_ok-hand_windows.ensures.hands);
}

pub returns-in_err-hand_headed : goal.returns-in_err-hand_headed
returns-in_err-hand_headed g c = record {
  hands = hands_then (keeping_of g.S.Store) g.V.Visitor.step _ _ _ _ _ _ c.from_residual-in_err-hand_headed.result (comes c.args.book c.args.day)
      (others c.args.book c.args.day) (rw c.in-Go.is at c.in_ok-hand_windows.ensures.hands)
      (hands_ended (keeping_of g.S.Store) g.V.Visitor.step _ _ _ _ (Err c.in_err-hand_headed.field-0.0) c.from_residual-in_err-hand_headed.result
      (headed part_of.Asked c.args.book c.args.day) (headed part_of.Ends c.args.book c.args.day) (λ e. cc e) (search rules) c.in_err-hand_headed.ensures.hands);
}

pub returns-in-Stop-2 : goal.returns-in-Stop-2
returns-in-Stop-2 g c = record {
  hands = hands_then (keeping_of g.S.Store) g.V.Visitor.step _ _ _ _ _ _ (Ok Stop) (comes c.args.book c.args.day) (others c.args.book c.args.day) (rw c.in-Go.is
      at c.in_ok-hand_windows.ensures.hands) (hands_ended (keeping_of g.S.Store) g.V.Visitor.step _ _ _ _ (Ok Stop) (Ok Stop) (headed part_of.Asked c.args.book
      c.args.day) (headed part_of.Ends c.args.book c.args.day) (λ e. cc e) refl (rw c.in-Stop-2.is at c.in_ok-hand_headed.ensures.hands));
}

pub returns : goal.returns
returns g c = record {
  hands = hands_then (keeping_of g.S.Store) g.V.Visitor.step _ _ _ _ _ _ c.hand_headed-2.result (comes c.args.book c.args.day) (others c.args.book c.args.day)
      (rw c.in-Go.is at c.in_ok-hand_windows.ensures.hands)
      (hands_then (keeping_of g.S.Store) g.V.Visitor.step _ _ _ _ _ _ c.hand_headed-2.result (headed part_of.Asked c.args.book c.args.day)
      (headed part_of.Ends c.args.book c.args.day) (rw c.in-Go-2.is at c.in_ok-hand_headed.ensures.hands) c.hand_headed-2.ensures.hands);
}
