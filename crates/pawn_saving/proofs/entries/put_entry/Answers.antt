use Rattle.pawn_saving.proofs.StatementWrites.{entry_wrote, on_ran}
use Rattle.pawn_saving.proofs.entries.put_entry.Goals as goal

pub returns-clause-wrote : goal.returns-clause-wrote
returns-clause-wrote g c clean within listed st = on_ran c.write.result _ _ (rw (c.sort_number-sort.ensures.value, c.in_ok-pence.ensures.value) at
    (rw (c.params-to_sql-5.ensures, c.params-to_sql-6.ensures, c.in_ok-seq.ensures.value, c.count-day.ensures.value) at
    (rw (c.params-to_sql.ensures, c.params-to_sql-2.ensures, c.params-to_sql-3.ensures, c.params-to_sql-4.ensures) at (c.write.ensures.ran clean within))))
    (λ count. entry_wrote _ _ listed st count c.args.book c.args.number c.args.entry.now)
