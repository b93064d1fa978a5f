use Rattle.pawn_saving.proofs.StatementWrites.{on_ran, terms_wrote}
use Rattle.pawn_saving.proofs.books.put_terms.Goals as goal

pub returns-clause-wrote : goal.returns-clause-wrote
returns-clause-wrote g c clean within listed st =
    on_ran c.write.result _ _ (rw (c.params-to_sql-5.ensures, c.in_ok-rate.ensures.value, c.in_ok-before.ensures.value, c.in_ok-after.ensures.value) at
    (rw (c.params-to_sql.ensures, c.params-to_sql-2.ensures, c.params-to_sql-3.ensures, c.params-to_sql-4.ensures) at (c.write.ensures.ran clean within)))
    (λ count. terms_wrote _ _ listed st count c.args.book c.args.version c.args.rates)
