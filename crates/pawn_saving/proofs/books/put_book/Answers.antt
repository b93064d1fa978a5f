use Rattle.pawn_saving.proofs.BookStatements.{book_wrote}
use Rattle.pawn_saving.proofs.StatementWrites.{on_ran}
use Rattle.pawn_saving.proofs.Writing.{rules}
use Rattle.pawn_saving.proofs.books.put_book.Goals as goal

pub returns-clause-wrote : goal.returns-clause-wrote
returns-clause-wrote g c clean within listed st = on_ran c.write.result _ _
    (rw (c.params-to_sql.ensures, c.params-to_sql-2.ensures, c.params-to_sql-3.ensures, c.params-to_sql-4.ensures) at (c.write.ensures.ran clean within))
    (λ count. book_wrote _ _ listed st count c.args.book c.get-capacity.result _ _ c.args.new_book.now (search rules) (search rules) (search rules))
