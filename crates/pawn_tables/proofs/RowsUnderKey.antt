-- The rows of one book, and of one pledge, among those of a host.
pub use Rattle.pawn_base.proofs.TestLemmas.{below as lower_key, both_told as both_pass, told as is_passed}
use Rattle.pawn_tables.proofs.Basics.{and_left, and_right, cond-false, cond-true, filter-append, flat_map_none}
use Rattle.pawn_tables.proofs.Basics.{nat_tests, value_cmp-Int}
use Rattle.pawn_tables.specs.At.{is_at, at_pledge}
use Rattle.pawn_tables.specs.Common.{entries, entries_sorted, get, get-entries, is_sorted, below_all, AllByRecursion}
use Rattle.pawn_tables.specs.Common.{is_eq, nat_cmp, Less, binary, from_truth, is_true, Row, column, value_cmp}
use Rattle.pawn_tables.specs.Common.{IsAscending, Value, Entry, PledgeValue, BookValue, pledge_from, pledge_in, Host}
use Rattle.pawn_tables.specs.Common.{AreNumberedFrom, find}
use Rattle.pawn_tables.specs.Entries.{RiseFrom}
use Rattle.pawn_tables.specs.Rows.{number, placed_from}
use Rattle.pawn_tables.specs.StandsFor.{AreBooksOrdered, of_books, of_pledges}
use Rattle.std.proofs.Common.{◌≡◌, ◌≢◌, ◌++◌, ◌==◌, ℕ, ◌+◌, ◌<◌, pos, List, [], ◌∷◌, map, filter, flat_map, Bool, true}
use Rattle.std.proofs.Common.{false, cond, ◌&&◌, Option, Some, None, T, refl, sym, ap, subst, ◌∙◌, arith, append-nil}
use Rattle.std.proofs.Common.{if◌then◌else◌}

-- a test of two that is passed, and one, as an equation

-- ---- SQL's = on numbers

pub truth_of : (b : Bool) → is_true (from_truth (Some b)) ≡ b
truth_of true = refl
truth_of false = refl

pub equals : (m n : ℕ) → is_at (number m) (number n) ≡ (m == n)
unfolding binary
equals m n = truth_of _ ∙ ap is_eq (value_cmp-Int (pos m) (pos n)) ∙ grind (arith, nat_tests)

-- ---- the entry at a key

abbrev pub rows_at : {X : Type 0} → Option X → (X → List Row) → List Row
rows_at None f = []
rows_at (Some x) f = f x

pub filter-flat_map : {X : Type 0} (p : Row → Bool) (f : X → List Row) (xs : List X) → filter p (flat_map f xs) ≡ flat_map (λ x. filter p (f x)) xs
filter-flat_map p f [] = refl
filter-flat_map p f (x ∷ xs) = filter-append p (f x) (flat_map f xs) ∙ ap (λ l. filter p (f x) ++ l) (filter-flat_map p f xs)

pub same_key : (m n : ℕ) → is_eq (nat_cmp n m) ≡ true → m ≡ n
same_key m n h = grind (arith, nat_tests, h)

module _ {X : Type 0} (n : ℕ) (f : ℕ → X → List Row) (none : (m : ℕ) (x : X) → m ≢ n → f m x ≡ []) where
  none_below : (es : List (ℕ × X)) → T (below_all nat_cmp n es) → flat_map (λ (e : ℕ × X). f e.0 e.1) es ≡ []
  none_below [] h = refl
  none_below (e ∷ es) h = let both = both_pass _ _ h in
      let low = lower_key n e.0 both.0 in
      ap (λ l. l ++ flat_map (λ (e : ℕ × X). f e.0 e.1) es) (none e.0 e.1 (λ same. absurd (omega (arith, low, same)))) ∙ none_below es both.1

  at_key : (es : List (ℕ × X)) → T (is_sorted nat_cmp es) → flat_map (λ (e : ℕ × X). f e.0 e.1) es ≡ rows_at (find nat_cmp n es) (f n)
  at_key [] h = refl
  at_key (e ∷ es) h = go (is_eq (nat_cmp n e.0)) refl (at_key es (both_pass _ _ h).1) where
    go : (b : Bool) → is_eq (nat_cmp n e.0) ≡ b → flat_map (λ (e : ℕ × X). f e.0 e.1) es ≡ rows_at (find nat_cmp n es) (f n)
        → f e.0 e.1 ++ flat_map (λ (e : ℕ × X). f e.0 e.1) es ≡ rows_at (cond b (Some e.1) (find nat_cmp n es)) (f n)
    go true is rest = let same = same_key e.0 n is in
        ap (λ l. f e.0 e.1 ++ l) (none_below es (subst (λ k. T (below_all nat_cmp k es)) same (both_pass _ _ h).0)) ∙ append-nil _ ∙ ap (λ k. f k e.1) same
    go false is rest = ap (λ l. l ++ flat_map (λ (e : ℕ × X). f e.0 e.1) es) (none e.0 e.1 (λ same. absurd (grind (arith, nat_tests, is, same)))) ∙ rest

-- the rows of a book, where no other has a row that passes
pub of_one_book : (h : Host) (b : ℕ) (test : Row → Bool) (rows_of : ℕ → BookValue → List Row) → ((m : ℕ) (k : BookValue) → m ≢ b
    → filter test (rows_of m k) ≡ []) → filter test (of_books h rows_of) ≡ rows_at (get h.books b) (λ k. filter test (rows_of b k))
of_one_book h b test rows_of none = filter-flat_map test (λ (e : ℕ × BookValue). rows_of e.0 e.1) (entries h.books) ∙ at_key b (λ m k. filter test
    (rows_of m k)) none (entries h.books) (entries_sorted h.books) ∙ ap (λ o. rows_at o (λ k. filter test (rows_of b k))) (sym (get-entries h.books b))

-- ---- the pledge of a number

module _ (n : ℕ) (f : PledgeValue → List Row) (none : (p : PledgeValue) → p.agreement.number ≢ n → f p ≡ []) where
  none_past : (k : ℕ) (ps : List PledgeValue) → n < k → AreNumberedFrom k ps → flat_map f ps ≡ []
  none_past k [] past numbered = refl
  none_past k (p ∷ ps) past numbered = ap (λ l. l ++ flat_map f ps) (none p (λ same. let at = numbered.0 in absurd (omega (arith, same, past, at))))
      ∙ none_past (k + 1) ps (omega (arith, past)) numbered.1

  pub at_number : (k : ℕ) (ps : List PledgeValue) → AreNumberedFrom k ps → flat_map f ps ≡ rows_at (pledge_from k ps n) f
  at_number k [] numbered = refl
  at_number k (p ∷ ps) numbered = go (n == k) refl (at_number (k + 1) ps numbered.1) where
    go : (b : Bool) → (n == k) ≡ b → flat_map f ps ≡ rows_at (pledge_from (k + 1) ps n) f
        → f p ++ flat_map f ps ≡ rows_at (if b then Some p else pledge_from (k + 1) ps n) f
    go true is rest = let same : n ≡ k = grind (arith, nat_tests, is) in
        ap (λ l. f p ++ l) (none_past (k + 1) ps (omega (arith, same)) numbered.1) ∙ append-nil _
    go false is rest = let at = numbered.0 in
        ap (λ l. l ++ flat_map f ps) (none p (λ same. absurd (let e : (n == k) ≡ true = grind (arith, nat_tests, same, at) in let e2 = sym e ∙ is in cc)))
        ∙ rest

-- rows of one pledge
abbrev pub AreUnder : ℕ → ℕ → List Row → Type 0
AreUnder b n = AllByRecursion (λ r. (column r 0 ≡ number b) × (column r 1 ≡ number n))

at_is : (b n m k : ℕ) (r : Row) → (column r 0 ≡ number m) × (column r 1 ≡ number k) → at_pledge b n r ≡ ((m == b) && ((k == n) && true))
at_is b n m k r at = (λ i. is_at (at.0 i) (number b) && (is_at (at.1 i) (number n) && true)) ∙ (λ i. equals m b i && (equals k n i && true))

pub all_under : (b n : ℕ) (rows : List Row) → AreUnder b n rows → filter (at_pledge b n) rows ≡ rows
all_under b n [] h = refl
all_under b n (r ∷ rows) h =
    let here : at_pledge b n r ≡ true = at_is b n b n r h.0
    ∙ (let x : (b == b) ≡ true = grind (arith, nat_tests) in let y : (n == n) ≡ true = grind (arith, nat_tests) in rw (x, y) refl) in
    cond-true _ _ _ here ∙ ap (λ l. r ∷ l) (all_under b n rows h.1)

none_under : (b n m k : ℕ) → ((m == b) && ((k == n) && true)) ≡ false → (rows : List Row) → AreUnder m k rows → filter (at_pledge b n) rows ≡ []
none_under b n m k other [] h = refl
none_under b n m k other (r ∷ rows) h = cond-false _ _ _ (at_is b n m k r h.0 ∙ other) ∙ none_under b n m k other rows h.1

pub number_from : (n k : ℕ) (ps : List PledgeValue) → AreNumberedFrom k ps → (p : PledgeValue) → pledge_from k ps n ≡ Some p → p.agreement.number ≡ n
number_from n k [] numbered p is = absurd (let e = is in cc)
number_from n k (q ∷ ps) numbered p is =
    elim (n == k) as (λ c. (n == k) ≡ c → (if c then Some q else pledge_from (k + 1) ps n) ≡ Some p → p.agreement.number ≡ n) [
      | true ↦ λ at here. let same : q ≡ p = (let e = here in cc) in ap (λ (x : PledgeValue). x.agreement.number) (sym same) ∙ numbered.0
          ∙ grind (arith, nat_tests, at)
      | false ↦ λ at there. number_from n (k + 1) ps numbered.1 p there
    ] refl is

-- the rows of one pledge, among those of all pledges of all books
pub of_one_pledge : (h : Host) (b n : ℕ) (rows_of : ℕ → PledgeValue → List Row) → AreBooksOrdered h → ((m : ℕ) (p : PledgeValue)
    → AreUnder m p.agreement.number (rows_of m p)) → filter (at_pledge b n) (of_pledges h rows_of) ≡ rows_at (pledge_in (get h.books b) n) (rows_of b)
of_one_pledge h b n rows_of ordered under' = of_one_book h b (at_pledge b n) (λ m k. flat_map (rows_of m) k.pledges) other ∙ inside (get h.books b) refl where
  other : (m : ℕ) (k : BookValue) → m ≢ b → filter (at_pledge b n) (flat_map (rows_of m) k.pledges) ≡ []
  other m k apart' = let no' : (m == b) ≡ false = grind (arith, nat_tests, apart') in
      filter-flat_map (at_pledge b n) (rows_of m) k.pledges ∙ flat_map_none (λ p. filter (at_pledge b n) (rows_of m p))
      (λ p. none_under b n m p.agreement.number (and_left _ _ no') (rows_of m p) (under' m p)) k.pledges

  one : (p : PledgeValue) → p.agreement.number ≢ n → filter (at_pledge b n) (rows_of b p) ≡ []
  one p apart' = let no' : (p.agreement.number == n) ≡ false = grind (arith, nat_tests, apart') in
      none_under b n b p.agreement.number (and_right (b == b) _ (and_left _ _ no')) (rows_of b p) (under' b p)

  found : (o : Option PledgeValue) → ((p : PledgeValue) → o ≡ Some p → p.agreement.number ≡ n)
      → rows_at o (λ p. filter (at_pledge b n) (rows_of b p)) ≡ rows_at o (rows_of b)
  found None at = refl
  found (Some p) at = all_under b n (rows_of b p) (subst (λ k. AreUnder b k (rows_of b p)) (at p refl) (under' b p))

  inside : (o : Option BookValue) → get h.books b ≡ o
      → rows_at o (λ k. filter (at_pledge b n) (flat_map (rows_of b) k.pledges)) ≡ rows_at (pledge_in o n) (rows_of b)
  inside None is = refl
  inside (Some k) is = let numbered = (ordered b k is).pledges in
      filter-flat_map (at_pledge b n) (rows_of b) k.pledges ∙ at_number n (λ p. filter (at_pledge b n) (rows_of b p)) one 1 k.pledges numbered
      ∙ found (pledge_from 1 k.pledges n) (number_from n 1 k.pledges numbered)

-- ---- the order of a pledge's rows

pub less : (m n : ℕ) → m < n → value_cmp (number m) (number n) ≡ Less
less m n h = value_cmp-Int (pos m) (pos n) ∙ grind (arith, nat_tests, h)

-- rows that rise in a column
abbrev pub Rise : (Row → Value) → List Row → Type 0
Rise key = IsAscending (λ a b. value_cmp (key a) (key b) ≡ Less)

-- elements with their places stand in order
pub placed_rise : {A : Type 0} (f : ℕ → A → Row) (key : Row → Value) → ((at : ℕ) (x : A) → key (f at x) ≡ number at) → (at : ℕ) (xs : List A)
    → Rise key (placed_from f at xs)
placed_rise f key is at [] = tt
placed_rise {A} f key is at (x ∷ xs) = (above (at + 1) xs (omega arith), placed_rise f key is (at + 1) xs) where
  above : (m : ℕ) (ys : List A) → at < m → AllByRecursion (λ r. value_cmp (key (f at x)) (key r) ≡ Less) (placed_from f m ys)
  above m [] h = tt
  above m (y ∷ ys) h = ((λ i. value_cmp (is at x i) (is m y i)) ∙ less at m h, above (m + 1) ys (omega (arith, h)))

pub entries_rise : (f : Entry → Row) (key : Row → Value) → ((e : Entry) → key (f e) ≡ number e.seq) → (n : ℕ) (es : List Entry) → RiseFrom n es
    → Rise key (map f es)
entries_rise f key is n [] rise = tt
entries_rise f key is n (e ∷ es) rise = (above (e.seq + 1) es (omega arith) rise.1, entries_rise f key is (e.seq + 1) es rise.1) where
  above : (m : ℕ) (ys : List Entry) → e.seq < m → RiseFrom m ys → AllByRecursion (λ r. value_cmp (key (f e)) (key r) ≡ Less) (map f ys)
  above m [] h at = tt
  above m (y ∷ ys) h at = let low = at.0 in
      ((λ i. value_cmp (is e i) (is y i)) ∙ less e.seq y.seq (omega (arith, h, low)), above (y.seq + 1) ys (omega (arith, h, low)) at.1)
