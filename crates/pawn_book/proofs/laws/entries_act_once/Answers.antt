use Rattle.pawn_book.proofs.RepeatLemmas.{entry_told, entry_told_to_all}
use Rattle.pawn_book.proofs.laws.entries_act_once.Goals as goal

pub returns : goal.returns
returns c = record { law = entry_told; for_all = entry_told_to_all }
