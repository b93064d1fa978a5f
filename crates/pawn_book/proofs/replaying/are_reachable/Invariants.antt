use Rattle.pawn_book.specs.Common.{Each, IsReachable, PledgeValue}
use Rattle.std.proofs.Common.{drop}
use Rattle.pawn_book.proofs.replaying.are_reachable.Given as goal

abbrev pub invariant-loop-parts : goal.invariant-loop-parts
invariant-loop-parts l = record {
  down : Each {X = PledgeValue} IsReachable l.pledges → Each {X = PledgeValue} IsReachable (drop l.parts-index l.pledges);
  back : Each {X = PledgeValue} IsReachable (drop l.parts-index l.pledges) → Each {X = PledgeValue} IsReachable l.pledges;
}
