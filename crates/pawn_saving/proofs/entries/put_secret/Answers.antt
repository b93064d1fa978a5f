use Rattle.pawn_saving.proofs.StatementWrites.{on_ran, secret_wrote}
use Rattle.pawn_saving.proofs.Writing.{rules}
use Rattle.pawn_saving.proofs.entries.put_secret.Goals as goal

pub returns-clause-wrote : goal.returns-clause-wrote
returns-clause-wrote g c clean within listed st =
    on_ran c.write.result _ _ (rw (c.params-to_sql-5.ensures, c.params-to_sql-6.ensures, c.count-day.ensures.value, c.issue_number-sort.ensures.value) at
    (rw (c.params-to_sql.ensures, c.params-to_sql-2.ensures, c.params-to_sql-3.ensures, c.params-to_sql-4.ensures) at (c.write.ensures.ran clean within)))
    (λ count. secret_wrote _ _ listed st count c.args.book c.args.number c.args.place _ c.args.issued.now (search rules))
