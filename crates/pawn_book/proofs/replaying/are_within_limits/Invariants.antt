use Rattle.pawn_book.specs.Common.{Each, IsChecked, Rates}
use Rattle.std.proofs.Common.{drop}
use Rattle.pawn_book.proofs.replaying.are_within_limits.Given as goal

abbrev pub invariant-loop-rates : goal.invariant-loop-rates
invariant-loop-rates l = record {
  down : Each {X = Rates} IsChecked l.terms → Each {X = Rates} IsChecked (drop l.rates-index l.terms);
  back : Each {X = Rates} IsChecked (drop l.rates-index l.terms) → Each {X = Rates} IsChecked l.terms;
}
