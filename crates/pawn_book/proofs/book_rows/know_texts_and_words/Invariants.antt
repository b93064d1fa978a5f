use Rattle.pawn_book.specs.Sound.{AreWords}
use Rattle.std.proofs.Common.{drop}
use Rattle.pawn_book.proofs.book_rows.know_texts_and_words.Given as goal

abbrev pub invariant-loop-issued : goal.invariant-loop-issued
invariant-loop-issued l = AreWords (drop l.issued-index l.parts.secrets) → AreWords l.parts.secrets
