use Rattle.pawn_csv.proofs.ColumnLemmas.{column_is, no_column}
use Rattle.pawn_csv.specs.Common.{fields_of}
use Rattle.pawn_csv.proofs.columns.column.Goals as goal

pub returns-in-Some : goal.returns-in-Some
returns-in-Some c = record { value = column_is (fields_of c.args.columns.now) c.args.place _ (rw c.in-Some.is at c.get.ensures.value) }

pub returns-in-None : goal.returns-in-None
returns-in-None c = record { value = no_column (fields_of c.args.columns.now) c.args.place (rw c.in-None.is at c.get.ensures.value) }
