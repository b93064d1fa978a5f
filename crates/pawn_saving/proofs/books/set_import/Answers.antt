use Rattle.pawn_saving.proofs.BookStatements.{import_wrote}
use Rattle.pawn_saving.proofs.StatementWrites.{on_ran}
use Rattle.pawn_saving.proofs.Writing.{rules}
use Rattle.pawn_saving.proofs.books.set_import.Goals as goal

pub returns-clause-wrote : goal.returns-clause-wrote
returns-clause-wrote g c k rows terms pledges clean within listed rest only st = on_ran c.write.result _ _
    (rw (c.params-to_sql.ensures, c.params-to_sql-2.ensures, c.params-to_sql-3.ensures, c.params-to_sql-4.ensures) at (c.write.ensures.ran clean within))
    (λ count. import_wrote _ _ listed st count c.args.book c.args.terms c.args.pledges c.args.key _ k rows rest terms pledges (search rules) only)
