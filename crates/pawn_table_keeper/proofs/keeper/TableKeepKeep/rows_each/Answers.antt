use Rattle.pawn_book.specs.Items.{rows_of_pledges}
use Rattle.pawn_table_keeper.proofs.Handings.{visits_of}
use Rattle.pawn_table_keeper.specs.Common.{call_end, get, pledges_of}
use Rattle.pawn_table_keeper.specs.Handing.{keeping_of}
use Rattle.std.proofs.Common.{Err, ap, rules, ◌≡◌}
use Rattle.pawn_table_keeper.proofs.keeper.TableKeepKeep.rows_each.Goals as goal

pub returns-in_err-hand_rows-clause-reads : goal.returns-in_err-hand_rows-clause-reads
returns-in_err-hand_rows-clause-reads g c = let is : c.from_residual.result ≡ Err c.in_err-hand_rows.field-0.0 = search rules in
    visits_of (keeping_of g.S.Store) g.V.Visitor.step _ _ _ _ (Err c.in_err-hand_rows.field-0.0) c.from_residual.result
    (λ h. rows_of_pledges (pledges_of (get h.books c.args.book))) (ap call_end is) c.in_err-hand_rows.ensures.hands
