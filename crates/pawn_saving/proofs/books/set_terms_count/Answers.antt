use Rattle.pawn_saving.proofs.BookStatements.{terms_count_wrote}
use Rattle.pawn_saving.proofs.StatementWrites.{on_ran}
use Rattle.pawn_saving.proofs.books.set_terms_count.Goals as goal

pub returns-clause-wrote : goal.returns-clause-wrote
returns-clause-wrote g c k terms len clean within listed rest only st =
    on_ran c.write.result _ _ (rw (c.params-to_sql.ensures, c.params-to_sql-2.ensures) at (c.write.ensures.ran clean within))
    (λ count. terms_count_wrote _ _ listed st count c.args.book c.args.count k terms rest len only)
