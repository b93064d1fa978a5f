use Rattle.pawn_list_keeper.specs.Common.{Each, IsChecked, Rates}
use Rattle.std.proofs.Common.{◌≡◌, drop, take}
use Rattle.pawn_list_keeper.proofs.list_import.terms_of.Given as goal

abbrev pub invariant-loop-numbers : goal.invariant-loop-numbers
invariant-loop-numbers l = record {
  same : l.terms.items ≡ take l.numbers-index l.rates;
  checked : Each {X = Rates} IsChecked (drop l.numbers-index l.rates);
}
