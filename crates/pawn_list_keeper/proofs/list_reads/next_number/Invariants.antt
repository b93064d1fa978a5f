use Rattle.pawn_list_keeper.specs.Listed.{IsLeastAbove, listed_book}
use Rattle.std.proofs.Common.{take, map}
use Rattle.pawn_list_keeper.proofs.list_reads.next_number.Given as goal

abbrev pub invariant-loop-kept : goal.invariant-loop-kept
invariant-loop-kept l = IsLeastAbove (take l.kept-index (map listed_book l.books)) l.after l.next
