use Rattle.pawn_book.proofs.Reading.{reads_none}
use Rattle.pawn_table_keeper.proofs.Handings.{hands_as, hands_nothing}
use Rattle.pawn_table_keeper.proofs.SheetPages.{is_named, not_named}
use Rattle.pawn_table_keeper.specs.Common.{get, list_any, pledges_of, window_sheet}
use Rattle.pawn_table_keeper.specs.Handing.{keeping_of}
use Rattle.pawn_table_keeper.specs.Windows.{named_sheet}
use Rattle.std.proofs.Common.{false, sym, true, ◌==◌, ◌∙◌, ◌≡◌}
use Rattle.pawn_table_keeper.proofs.keeper.TableKeep.hand_named.Goals as goal

pub returns-then-contains : goal.returns-then-contains
returns-then-contains g c = let is : list_any (λ n. n == c.args.window) c.args.windows.now ≡ true = sym c.contains.ensures.value ∙ c.if-contains.true in
    record {
      hands = hands_as (keeping_of g.S.Store) g.V.Visitor.step _ _ _ _ c.hand_window.result (λ h. window_sheet (pledges_of (get h.books c.args.book)) c.args.day
          c.args.window) (λ h. named_sheet c.args.windows.now (pledges_of (get h.books c.args.book)) c.args.day c.args.window)
          (λ h. is_named c.args.windows.now (pledges_of (get h.books c.args.book)) c.args.day c.args.window is) c.hand_window.ensures.hands;
    }

pub returns-else-contains : goal.returns-else-contains
returns-else-contains g c = let not : list_any (λ n. n == c.args.window) c.args.windows.now ≡ false = sym c.contains.ensures.value ∙ c.if-contains.false in
    record {
      hands = hands_nothing (keeping_of g.S.Store) g.V.Visitor.step c.args.self.now c.args.self.now c.args.visitor.now (λ h. named_sheet c.args.windows.now
          (pledges_of (get h.books c.args.book)) c.args.day c.args.window) (reads_none (keeping_of g.S.Store) c.args.self.now (λ h. Unit {0}) (λ h. tt))
          (λ h told. not_named c.args.windows.now (pledges_of (get h.books c.args.book)) c.args.day c.args.window not);
    }
