use Rattle.pawn_book.specs.Sound.{AreWords}
use Rattle.std.proofs.Common.{drop}
use Rattle.pawn_check.proofs.pledges.know_texts_and_words.Given as goal

abbrev pub invariant-loop-issued : goal.invariant-loop-issued
invariant-loop-issued l = AreWords (drop l.issued-index l.pledge.secrets) → AreWords l.pledge.secrets
