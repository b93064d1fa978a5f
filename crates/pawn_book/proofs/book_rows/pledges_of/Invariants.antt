use Rattle.pawn_book.specs.Common.{Each, IsReachable, PledgeValue}
use Rattle.std.proofs.Common.{◌≡◌, ◌++◌}
use Rattle.pawn_book.proofs.book_rows.pledges_of.Given as goal

abbrev pub invariant-loop-parts : goal.invariant-loop-parts
invariant-loop-parts l = record {
  can_next : (goal.iterator-loop-parts).can_next l.parts-iterator;
  is_finite : (goal.iterator-loop-parts).is_finite l.parts-iterator;
  whole : l.yielded ++ l.parts-iterator.rest.items ≡ l.fn.records.items;
  same : l.pledges.items ≡ l.yielded;
  reachable : Each {X = PledgeValue} IsReachable l.yielded;
}
