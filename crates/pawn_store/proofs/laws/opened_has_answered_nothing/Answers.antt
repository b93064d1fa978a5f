use Rattle.pawn_store.proofs.Runs.{nothing_answered}
use Rattle.pawn_store.specs.Running.{store_of}
use Rattle.pawn_store.proofs.laws.opened_has_answered_nothing.Goals as goal

pub returns : goal.returns
returns g c = record { law = λ service h operator sound opens. nothing_answered (store_of g.S.Store service) h operator sound opens }
