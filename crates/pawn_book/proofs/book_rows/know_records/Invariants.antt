use Rattle.pawn_book.specs.Common.{Each, PledgeValue}
use Rattle.pawn_book.specs.Sound.{HasTextsAndWords}
use Rattle.std.proofs.Common.{drop}
use Rattle.pawn_book.proofs.book_rows.know_records.Given as goal

abbrev pub invariant-loop-parts : goal.invariant-loop-parts
invariant-loop-parts l = Each {X = PledgeValue} HasTextsAndWords (drop l.parts-index l.records) → Each {X = PledgeValue} HasTextsAndWords l.records
