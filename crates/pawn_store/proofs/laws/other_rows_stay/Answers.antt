use Rattle.pawn_store.proofs.OtherRowLemmas.{other_rows_stay, other_rows_stay_in_runs}
use Rattle.pawn_store.proofs.laws.other_rows_stay.Goals as goal

pub returns : goal.returns
returns g c = record { request = other_rows_stay; runs = other_rows_stay_in_runs }
