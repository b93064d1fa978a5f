use Rattle.pawn_book.proofs.RepeatLemmas.{extension_told, same_end_is_replied}
use Rattle.pawn_book.proofs.laws.extensions_act_once.Goals as goal

pub returns : goal.returns
returns c = record { same_end = same_end_is_replied; law = extension_told }
