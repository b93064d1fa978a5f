-- Rows that count their places in a column.
use Rattle.pawn_tables.proofs.Basics.{nat_tests, cond-false, cond-true}
use Rattle.pawn_tables.proofs.RowsUnderKey.{equals}
use Rattle.pawn_tables.specs.At.{is_at}
use Rattle.pawn_tables.specs.Common.{AllByRecursion, Row, column}
use Rattle.pawn_tables.specs.Places.{at_place}
use Rattle.pawn_tables.specs.Rows.{at_most_one, number, placed_from}
use Rattle.std.proofs.Common.{◌≡◌, ◌==◌, ℕ, zero, suc, ◌+◌, ◌<◌, List, [], ◌∷◌, map, filter, Bool, true, false, cond}
use Rattle.std.proofs.Common.{◌&&◌, refl, ap, ◌∙◌, arith, slice_get}

pub regroup : (a b c : Bool) → (a && (b && (c && true))) ≡ ((a && (b && true)) && c)
regroup true true true = refl
regroup true true false = refl
regroup true false c = refl
regroup false b c = refl

pub filter_both : (p q : Row → Bool) (xs : List Row) → filter q (filter p xs) ≡ filter (λ x. p x && q x) xs
filter_both p q [] = refl
filter_both p q (x ∷ xs) =
    elim (p x) as (λ b. filter q (cond b (x ∷ filter p xs) (filter p xs)) ≡ cond (b && q x) (x ∷ filter (λ y. p y && q y) xs) (filter (λ y. p y && q y) xs))
    [ true ↦ ap (λ l. cond (q x) (x ∷ l) l) (filter_both p q xs) | false ↦ filter_both p q xs ]

pub placed_all : {A : Type 0} (P : Row → Type 0) (f : ℕ → A → Row) → ((at : ℕ) (x : A) → P (f at x)) → (at : ℕ) (xs : List A)
    → AllByRecursion P (placed_from f at xs)
placed_all P f all at [] = tt
placed_all P f all at (x ∷ xs) = (all at x, placed_all P f all (at + 1) xs)

module _ (c : ℕ) where
  abbrev pub has_place : ℕ → Row → Bool
  has_place s v = is_at (column v c) (number s)

  abbrev pub CountFrom : ℕ → List Row → Type 0
  CountFrom k [] = Unit {0}
  CountFrom k (r ∷ rs) = (column r c ≡ number k) × CountFrom (k + 1) rs

  test_is : (s k : ℕ) (r : Row) → column r c ≡ number k → has_place s r ≡ (k == s)
  test_is s k r is = ap (λ v. is_at v (number s)) is ∙ equals k s

  none_with_place : (s k : ℕ) (rs : List Row) → CountFrom k rs → s < k → filter (has_place s) rs ≡ []
  none_with_place s k [] counts lt = refl
  none_with_place s k (r ∷ rs) counts lt = let other : (k == s) ≡ false = grind (arith, nat_tests, lt) in
      cond-false _ _ _ (test_is s k r counts.0 ∙ other) ∙ none_with_place s (k + 1) rs counts.1 (omega (arith, lt))

  at_count : (s k n : ℕ) (rs : List Row) → CountFrom k rs → s ≡ k + n → filter (has_place s) rs ≡ at_most_one (λ r. r) (slice_get rs n)
  at_count s k n [] counts is = refl
  at_count s k zero (r ∷ rs) counts is = let here : (k == s) ≡ true = grind (arith, nat_tests, is) in
      cond-true _ _ _ (test_is s k r counts.0 ∙ here) ∙ ap (λ l. r ∷ l) (none_with_place s (k + 1) rs counts.1 (omega (arith, is)))
  at_count s k (suc n) (r ∷ rs) counts is = let other : (k == s) ≡ false = grind (arith, nat_tests, is) in
      cond-false _ _ _ (test_is s k r counts.0 ∙ other) ∙ at_count s (k + 1) n rs counts.1 (omega (arith, is))

  placed_alone : (s : ℕ) (rs : List Row) → CountFrom 1 rs → filter (has_place s) rs ≡ at_most_one (λ r. r) (at_place rs s)
  placed_alone zero rs counts = none_with_place 0 1 rs counts (omega arith)
  placed_alone (suc n) rs counts = at_count (suc n) 1 n rs counts (omega arith)

  module _ {A : Type 0} (g : ℕ → A → Row) (count : (at : ℕ) (x : A) → column (g at x) c ≡ number at) (told : ℕ → A → Row) (cells : Row → Row)
      (is : (at : ℕ) (x : A) → cells (g at x) ≡ told at x) where
    counts_placed : (k : ℕ) (xs : List A) → CountFrom k (placed_from g k xs)
    counts_placed k [] = tt
    counts_placed k (x ∷ xs) = (count k x, counts_placed (k + 1) xs)

    one_placed : (k n s : ℕ) (xs : List A) → s ≡ k + n
        → map cells (at_most_one (λ r. r) (slice_get (placed_from g k xs) n)) ≡ at_most_one (told s) (slice_get xs n)
    one_placed k n s [] at = refl
    one_placed k zero s (x ∷ xs) at = let same : k ≡ s = omega (arith, at) in ap (λ r. r ∷ []) (is k x ∙ ap (λ m. told m x) same)
    one_placed k (suc n) s (x ∷ xs) at = one_placed (k + 1) n s xs (omega (arith, at))

    shown_placed : (s : ℕ) (xs : List A) → map cells (at_most_one (λ r. r) (at_place (placed_from g 1 xs) s)) ≡ at_most_one (told s) (at_place xs s)
    shown_placed zero xs = refl
    shown_placed (suc n) xs = one_placed 1 n (suc n) xs (omega arith)

    -- what is shown of the element at a place
    pub placed_shown : (s : ℕ) (xs : List A) → map cells (filter (has_place s) (placed_from g 1 xs)) ≡ at_most_one (told s) (at_place xs s)
    placed_shown s xs = ap (map cells) (placed_alone s _ (counts_placed 1 xs)) ∙ shown_placed s xs
