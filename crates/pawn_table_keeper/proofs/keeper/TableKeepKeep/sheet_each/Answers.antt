use Rattle.pawn_table_keeper.proofs.Handings.{visits_of}
use Rattle.pawn_table_keeper.specs.Common.{get, pledges_of, day_sheet, call_end}
use Rattle.pawn_table_keeper.specs.Handing.{keeping_of}
use Rattle.std.proofs.Common.{Err, ap, rules, ◌≡◌}
use Rattle.pawn_table_keeper.proofs.keeper.TableKeepKeep.sheet_each.Goals as goal

pub returns-in_err-hand_sheet-clause-reads : goal.returns-in_err-hand_sheet-clause-reads
returns-in_err-hand_sheet-clause-reads g c = let is : c.from_residual.result ≡ Err c.in_err-hand_sheet.field-0.0 = search rules in
    visits_of (keeping_of g.S.Store) g.V.Visitor.step _ _ _ _ (Err c.in_err-hand_sheet.field-0.0) c.from_residual.result
    (λ h. day_sheet (pledges_of (get h.books c.args.book)) c.args.day) (ap call_end is) c.in_err-hand_sheet.ensures.hands
