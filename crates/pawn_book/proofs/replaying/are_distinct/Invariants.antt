use Rattle.pawn_book.specs.Rows.{AreDistinct, references_of}
use Rattle.std.proofs.Common.{drop}
use Rattle.pawn_book.proofs.replaying.are_distinct.Given as goal

abbrev pub invariant-loop-place : goal.invariant-loop-place
invariant-loop-place l = record {
  down : AreDistinct (references_of l.pledges) → AreDistinct (references_of (drop l.place l.pledges));
  back : AreDistinct (references_of (drop l.place l.pledges)) → AreDistinct (references_of l.pledges);
}
