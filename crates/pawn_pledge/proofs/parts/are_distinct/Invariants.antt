use Rattle.pawn_pledge.specs.Replayable.{AreDistinctSecrets}
use Rattle.std.proofs.Common.{drop}
use Rattle.pawn_pledge.proofs.parts.are_distinct.Given as goal

abbrev pub invariant-loop-i : goal.invariant-loop-i
invariant-loop-i l = record {
  down : AreDistinctSecrets l.issued → AreDistinctSecrets (drop l.i l.issued);
  back : AreDistinctSecrets (drop l.i l.issued) → AreDistinctSecrets l.issued;
}
