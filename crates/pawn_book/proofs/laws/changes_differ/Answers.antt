use Rattle.pawn_book.proofs.LawLemmas.{change_differs}
use Rattle.pawn_book.proofs.laws.changes_differ.Goals as goal

pub returns : goal.returns
returns c = record { law = change_differs }
