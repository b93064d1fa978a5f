use Rattle.pawn_csv.proofs.OneSpelling.{one_row}
use Rattle.pawn_csv.proofs.laws.rows_have_one_spelling.Goals as goal

pub returns : goal.returns
returns c = record { law = one_row }
