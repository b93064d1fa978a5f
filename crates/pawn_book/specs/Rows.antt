-- Which rows are those of a reachable book.
use Rattle.pawn_book.specs.Common.{DoNotFall, Each, IsChecked, IsReachable, PledgeValue, Rates, list_any}
use Rattle.pawn_book.specs.Limits.{most_pledges, most_terms}
use Rattle.std.specs.Cmp.Lexicographic.{pointwise}
use Rattle.std.specs.Prelude.{◌≡◌, ℕ, zero, suc, ◌+◌, ◌≤◌, Bool, false, List, [], ◌∷◌, Option, None, Some, length, map}
use Rattle.std.specs.Prelude.{nat_eq, slice_get}

-- two texts are the same
abbrev pub is_same_text : List ℕ → List ℕ → Bool
is_same_text a b = pointwise nat_eq a b

-- the terms of a version, if there are any; versions are numbered from 1
abbrev pub terms_at : List Rates → ℕ → Option Rates
terms_at terms zero = None
terms_at terms (suc n) = slice_get terms n

-- the pledges are numbered k, k + 1, ..
abbrev pub AreNumberedFrom : ℕ → List PledgeValue → Type 0
AreNumberedFrom k [] = Unit {0}
AreNumberedFrom k (p ∷ ps) = (p.agreement.number ≡ k) × AreNumberedFrom (k + 1) ps

-- no two texts are the same
abbrev pub AreDistinct : List (List ℕ) → Type 0
AreDistinct [] = Unit {0}
AreDistinct (t ∷ ts) = (list_any (is_same_text t) ts ≡ false) × AreDistinct ts

-- the references of pledges, in order
abbrev pub references_of : List PledgeValue → List (List ℕ)
references_of pledges = map (λ p. p.agreement.opening.reference) pledges

-- the terms of a pledge are those of its version
abbrev pub IsUnder : List Rates → PledgeValue → Type 0
IsUnder terms p = terms_at terms p.agreement.version ≡ Some p.agreement.terms

-- the version of a pledge's terms
abbrev pub version_of : PledgeValue → ℕ
version_of p = p.agreement.version

-- The rows of a reachable book. Its pledges are numbered from 1, each is reachable and within its limits, and their
-- references differ. Each pledge is under terms of the book, and the versions do not decrease from one pledge to the
-- next. There are no more terms and pledges than a book may have.
pub record AreReplayable (terms : List Rates) (pledges : List PledgeValue) : Type 0 where
  pub numbered : AreNumberedFrom 1 pledges
  pub reachable : Each IsReachable pledges
  pub references : AreDistinct (references_of pledges)
  pub under : Each (IsUnder terms) pledges
  pub versions : DoNotFall version_of 0 pledges
  pub checked : Each IsChecked terms
  pub few_terms : length terms ≤ most_terms
  pub few_pledges : length pledges ≤ most_pledges
