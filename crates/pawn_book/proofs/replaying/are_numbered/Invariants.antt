use Rattle.pawn_book.specs.Rows.{AreNumberedFrom}
use Rattle.std.proofs.Common.{◌+◌, drop}
use Rattle.pawn_book.proofs.replaying.are_numbered.Given as goal

abbrev pub invariant-loop-place : goal.invariant-loop-place
invariant-loop-place l = record {
  down : AreNumberedFrom 1 l.pledges → AreNumberedFrom (l.place + 1) (drop l.place l.pledges);
  back : AreNumberedFrom (l.place + 1) (drop l.place l.pledges) → AreNumberedFrom 1 l.pledges;
}
