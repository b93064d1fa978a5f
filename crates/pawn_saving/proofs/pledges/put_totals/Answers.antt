use Rattle.pawn_saving.proofs.StatementWrites.{new_totals_schema, new_totals_wrote, on_ran}
use Rattle.pawn_saving.proofs.Writing.{rules}
use Rattle.pawn_saving.proofs.pledges.put_totals.Goals as goal

pub returns-clause-wrote : goal.returns-clause-wrote
returns-clause-wrote g c clean within listed st =
    on_ran c.write.result _ _ (rw (c.params-to_sql-5.ensures, c.count-day.ensures.value, c.in_ok-principal.ensures.value) at
    (rw (c.params-to_sql.ensures, c.params-to_sql-2.ensures, c.params-to_sql-3.ensures, c.params-to_sql-4.ensures) at (c.write.ensures.ran clean within)))
    (λ count. new_totals_wrote _ _ listed st count c.args.book c.args.number _ c.args.totals.now (search rules))

pub returns-clause-schema : goal.returns-clause-schema
returns-clause-schema g c clean within listed st =
    on_ran c.write.result _ _ (rw (c.params-to_sql-5.ensures, c.count-day.ensures.value, c.in_ok-principal.ensures.value) at
    (rw (c.params-to_sql.ensures, c.params-to_sql-2.ensures, c.params-to_sql-3.ensures, c.params-to_sql-4.ensures) at (c.write.ensures.ran clean within)))
    (λ count. new_totals_schema _ _ listed st count c.args.book c.args.number _ c.args.totals.now (search rules))
