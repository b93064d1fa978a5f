use Rattle.pawn_base.specs.Lists.{Each}
use Rattle.pawn_book.specs.BookStep.{BookValue}
use Rattle.pawn_book.specs.Keeping.{Reads}
use Rattle.pawn_terms.specs.Terms.{IsChecked}
use Rattle.pawn_terms.specs.declared.terms.Rates.{Rates}
use Rattle.std.proofs.Common.{◌≡◌, take, Some}
use Rattle.std.specs.FinMap.{get}
use Rattle.pawn_check.proofs.books.find_terms.Given as goal

abbrev pub invariant-loop-version : goal.invariant-loop-version
invariant-loop-version g l = record {
  reads : Reads g.K.Keep.keeping l.fn.keep l.keep (λ h. (k : BookValue) → get h.books l.book ≡ Some k → Each {X = Rates} IsChecked (take l.version k.terms));
}
