-- Which debts were checked so far.
use Rattle.pawn_move.proofs.Basics.{Each-push, take_next, take_past, pledge_at}
use Rattle.pawn_move.specs.Moving.{AreAllOwed, AreOwedIn, AreTotalsAt, CanBeOwed, IsCheckedAt, IsNextChecked}
use Rattle.pawn_opening.specs.Common.{Host}
use Rattle.pawn_tables.specs.Common.{get, Totals, PledgeValue, Each, BookValue, pledge_in, pledges_of}
use Rattle.pawn_tables.specs.PledgeRows.{totals_in}
use Rattle.std.proofs.Common.{◌≡◌, ◌≢◌, ◌+◌, ◌<◌, ◌≤◌, ℕ, suc, Bool, true, false, Option, Some, None, nat_le, take}
use Rattle.std.proofs.Common.{slice_get, refl, sym, ap, subst, ◌∙◌, arith, IfSome, is_some}
use Rattle.std.proofs.lemmas.Bool.Decides.{nat_tests}

-- ---- the pledges of a book

-- what is checked where totals are looked for
pub checked_at : (h : Host) (b n : ℕ) (totals : Option Totals) → AreTotalsAt h b n totals → IsCheckedAt h b n (is_some totals)
checked_at h b n totals are = (ap is_some are.0 ∙ told (pledge_in (get h.books b) n), are.1) where
  told : (o : Option PledgeValue) → is_some (totals_in o) ≡ is_some o
  told None = refl
  told (Some p) = refl

-- so many of them can be owed
abbrev pub AreOwedTo : ℕ → ℕ → Host → Type 0
AreOwedTo b i h = Each CanBeOwed (take i (pledges_of (get h.books b)))

pub one_checked : (b i m : ℕ) → m ≡ i + 1 → (h : Host) → AreOwedTo b i h → IsCheckedAt h b m true → AreOwedTo b m h
one_checked b i m next h so_far is = go (pledge_in (get h.books b) m) (pledge_at (get h.books b) i m next) is.0 is.1 where
  go : (o : Option PledgeValue) → o ≡ slice_get (pledges_of (get h.books b)) i → true ≡ is_some o → IfSome o CanBeOwed → AreOwedTo b m h
  go None at some it = absurd (let e = some in cc)
  go (Some p) at some it = let ps = pledges_of (get h.books b) in
      let count : m ≡ suc i = omega (arith, next) in
      subst (Each CanBeOwed) (sym (ap (λ k. take k ps) count ∙ take_next ps i p (sym at))) (Each-push CanBeOwed (take i ps) p so_far it)

pub all_checked : (b i m : ℕ) → m ≡ i + 1 → (h : Host) → AreOwedTo b i h → IsCheckedAt h b m false → AreOwedIn h b
all_checked b i m next h so_far is = go (pledge_in (get h.books b) m) (pledge_at (get h.books b) i m next) is.0 where
  go : (o : Option PledgeValue) → o ≡ slice_get (pledges_of (get h.books b)) i → false ≡ is_some o → AreOwedIn h b
  go None at none = subst (Each CanBeOwed) (take_past (pledges_of (get h.books b)) i (sym at)) so_far
  go (Some p) at none = absurd (let e = none in cc)

-- ---- all books

-- those up to a number can be owed, but one of number 0
abbrev pub AreOwedUpto : ℕ → Host → Type 0
AreOwedUpto above h = (b : ℕ) (k : BookValue) → b ≢ 0 → b ≤ above → get h.books b ≡ Some k → Each CanBeOwed k.pledges

pub none_checked : (h : Host) → AreOwedUpto 0 h
none_checked h b k apart le at = absurd (apart (omega (arith, le)))

pub upto_next : (above b : ℕ) (h : Host) → AreOwedUpto above h → IsNextChecked h above (Some b) → AreOwedUpto b h
upto_next above b h so_far is c k apart le at = go (nat_le c above) refl where
  go : (d : Bool) → nat_le c above ≡ d → Each CanBeOwed k.pledges
  go true below = so_far c k apart (grind (arith, nat_tests, below)) at
  go false beyond = let lt : above < c = grind (arith, nat_tests, beyond) in
      let up = is.0.2 c k at lt in let same : b ≡ c = omega (arith, le, up) in
      subst (λ o. Each CanBeOwed (pledges_of o)) (ap (get h.books) same ∙ at) is.1

pub all_upto : (above : ℕ) (h : Host) → AreOwedUpto above h → IsNextChecked h above None → get h.books 0 ≡ None → AreAllOwed h
all_upto above h so_far is none b k at = so_far b k (λ zero'. absurd (let e = sym none ∙ ap (get h.books) (sym zero') ∙ at in cc)) (is.0 b k at) at
