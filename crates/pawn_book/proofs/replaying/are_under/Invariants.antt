use Rattle.pawn_book.specs.Common.{Each, PledgeValue}
use Rattle.pawn_book.specs.Rows.{IsUnder}
use Rattle.std.proofs.Common.{drop}
use Rattle.pawn_book.proofs.replaying.are_under.Given as goal

abbrev pub invariant-loop-parts : goal.invariant-loop-parts
invariant-loop-parts l = record {
  down : Each {X = PledgeValue} (IsUnder l.terms) l.pledges → Each {X = PledgeValue} (IsUnder l.terms) (drop l.parts-index l.pledges);
  back : Each {X = PledgeValue} (IsUnder l.terms) (drop l.parts-index l.pledges) → Each {X = PledgeValue} (IsUnder l.terms) l.pledges;
}
