use Rattle.pawn_book.specs.Common.{DoNotFall}
use Rattle.pawn_book.specs.Rows.{version_of}
use Rattle.std.proofs.Common.{drop}
use Rattle.pawn_book.proofs.replaying.do_not_fall.Given as goal

abbrev pub invariant-loop-parts : goal.invariant-loop-parts
invariant-loop-parts l = record {
  down : DoNotFall version_of 0 l.pledges → DoNotFall version_of l.version (drop l.parts-index l.pledges);
  back : DoNotFall version_of l.version (drop l.parts-index l.pledges) → DoNotFall version_of 0 l.pledges;
}
