-- What becomes of the rows of a host where a pledge is put.
use Rattle.pawn_saving.proofs.Basics.{nil_from_length, IsPermutation-append, IsPermutation-cons, IsPermutation-refl}
use Rattle.pawn_saving.proofs.Basics.{IsPermutation-flat_map, IsPermutation-same, part, rows-with_book, swapped}
use Rattle.pawn_saving.proofs.Basics.{number_in, AreUnder, all_under, of_one_pledge, rows_at}
use Rattle.pawn_saving.proofs.BookChanges.{books_after, found_after, only_book, other_books, rows_after, rows_before}
use Rattle.pawn_saving.proofs.BookChanges.{rows_beside}
use Rattle.pawn_saving.proofs.Changing.{more_joined}
use Rattle.pawn_saving.specs.Common.{changed_book, put_from, with_change, book_row_count, pledge_row_count, with_book, AreSound}
use Rattle.pawn_saving.specs.Common.{PutPledge}
use Rattle.pawn_tables.proofs.Basics.{nat_tests, IsPermutation-sym, IsPermutation-trans, length_permutation}
use Rattle.pawn_tables.proofs.Basics.{IsPermutation-filter, filter-append}
use Rattle.pawn_tables.specs.At.{at_pledge}
use Rattle.pawn_tables.specs.Common.{entries, get, Row, Text, PledgeValue, BookValue, pledge_from, pledge_in, Host}
use Rattle.pawn_tables.specs.Common.{rows, AreNumberedFrom}
use Rattle.pawn_tables.specs.Rows.{book_row, import_count, import_key, number, or_null, word}
use Rattle.pawn_tables.specs.StandsFor.{AreBooksOrdered, of_pledges}
use Rattle.std.proofs.Common.{◌≡◌, ◌++◌, ◌==◌, ℕ, ◌+◌, ◌≤◌, List, [], ◌∷◌, map, filter, flat_map, length, length-append}
use Rattle.std.proofs.Common.{append_assoc, Bool, true, false, Option, Some, None, refl, ap, subst, ◌∙◌, arith}
use Rattle.std.proofs.Common.{IsPermutation, if◌then◌else◌, sum_by}
use Rattle.std.proofs.lemmas.List.Sums.{sum_by-cons}

-- ---- the pledges of a book

-- the one, or none
abbrev pub those : {A : Type 0} → Option A → List A
those None = []
those (Some x) = x ∷ []

flat_those : {A : Type 0} (f : A → List Row) (o : Option A) (others : List A) → flat_map f (those o ++ others) ≡ rows_at o f ++ flat_map f others
flat_those f None others = refl
flat_those f (Some x) others = refl

moved : {A : Type 0} (q : A) (o : Option A) (others : List A) → IsPermutation (q ∷ those o ++ others) (those o ++ q ∷ others)
moved q None others = IsPermutation-refl _
moved q (Some x) others = swapped q x others

module _ (n : ℕ) (p : PledgeValue) where
  abbrev pub Splits : List PledgeValue → Option PledgeValue → List PledgeValue → Type 0
  Splits ps stood put = (others : List PledgeValue) × IsPermutation ps (those stood ++ others) × IsPermutation put (p ∷ others)

  -- the pledges are the one with a number, if there is one, and the others, which stay as they are when one is put there
  pub put_split : (k : ℕ) (ps : List PledgeValue) → Splits ps (pledge_from k ps n) (put_from k ps n p)
  put_split k [] = ([], IsPermutation-refl [], IsPermutation-refl (p ∷ []))
  put_split k (q ∷ ps) = go (n == k) (put_split (k + 1) ps) where
    go : (c : Bool) → Splits ps (pledge_from (k + 1) ps n) (put_from (k + 1) ps n p)
        → Splits (q ∷ ps) (if c then Some q else pledge_from (k + 1) ps n) (if c then p ∷ ps else q ∷ put_from (k + 1) ps n p)
    go true more = (ps, IsPermutation-refl _, IsPermutation-refl _)
    go false more = (
      q ∷ more.0,
      IsPermutation-trans _ _ _ (IsPermutation-cons q _ _ more.1) (moved q (pledge_from (k + 1) ps n) more.0),
      IsPermutation-trans _ _ _ (IsPermutation-cons q _ _ more.2) (swapped q p more.0),
    )

  put_sums : (k : ℕ) (ps : List PledgeValue)
      → sum_by pledge_row_count (put_from k ps n p) + part pledge_row_count (pledge_from k ps n) ≡ sum_by pledge_row_count ps + pledge_row_count p
  put_sums k [] = omega (arith, sum_by-cons pledge_row_count p [])
  put_sums k (q ∷ ps) =
      elim (n == k) as (λ v. sum_by pledge_row_count (if v then p ∷ ps else q ∷ put_from (k + 1) ps n p)
      + part pledge_row_count (if v then Some q else pledge_from (k + 1) ps n) ≡ sum_by pledge_row_count (q ∷ ps) + pledge_row_count p) [
        | true ↦ omega (arith, sum_by-cons pledge_row_count p ps, sum_by-cons pledge_row_count q ps)
        | false ↦ omega (arith, put_sums (k + 1) ps, sum_by-cons pledge_row_count q (put_from (k + 1) ps n p), sum_by-cons pledge_row_count q ps)
      ]

  pub put_length : (k : ℕ) (ps : List PledgeValue) → length (put_from k ps n p) + part (λ (q : PledgeValue). 1) (pledge_from k ps n) ≡ length ps + 1
  put_length k [] = refl
  put_length k (q ∷ ps) =
      elim (n == k) as (λ v. length (if v then p ∷ ps else q ∷ put_from (k + 1) ps n p)
      + part (λ (q : PledgeValue). 1) (if v then Some q else pledge_from (k + 1) ps n) ≡ length (q ∷ ps) + 1)
      [ true ↦ omega arith | false ↦ let rest = put_length (k + 1) ps in omega (arith, rest) ]

  -- a pledge that is put has its number, where the pledges are then numbered
  pub put_numbered : (k : ℕ) (ps : List PledgeValue) → n ≤ k + length ps → k ≤ n → AreNumberedFrom k (put_from k ps n p) → p.agreement.number ≡ n
  put_numbered k [] high low numbered = let at = numbered.0 in omega (arith, at, high, low)
  put_numbered k (q ∷ ps) high low numbered =
      elim (n == k) as (λ v. (n == k) ≡ v → AreNumberedFrom k (if v then p ∷ ps else q ∷ put_from (k + 1) ps n p) → p.agreement.number ≡ n) [
        | true ↦ λ e numbered. let same : n ≡ k = grind (arith, nat_tests, e) in let at = numbered.0 in omega (arith, at, same)
        | false ↦ λ e numbered. let more : k + 1 ≤ n = grind (arith, nat_tests, e, low) in put_numbered (k + 1) ps (omega (arith, high)) more numbered.1
      ] refl numbered

-- ---- the rows of a host

append_same : (xs ys zs : List Row) → IsPermutation xs ys → IsPermutation (xs ++ zs) (ys ++ zs)
append_same xs ys zs same = IsPermutation-append xs ys zs zs same (IsPermutation-refl zs)

module _ (h : Host) (b n : ℕ) (k : BookValue) (p : PledgeValue) (is : get h.books b ≡ Some k) where
  abbrev pub stood : Option PledgeValue
  stood = pledge_from 1 k.pledges n

  abbrev pub next : BookValue
  next = record k { pledges = put_from 1 k.pledges n p }

  abbrev pub changed : Host
  changed = with_book h b (Some next)

  pub is_changed : with_change h (PutPledge b n p) ≡ changed
  is_changed = ap (λ o. with_book h b (changed_book o (PutPledge b n p))) is

  -- the rows of the others
  abbrev pub rest : (ℕ → PledgeValue → List Row) → List Row
  rest f = flat_map (f b) (put_split n p 1 k.pledges).0 ++ rows_beside h b k is (λ c x. flat_map (f c) x.pledges)

  pub before_put : (f : ℕ → PledgeValue → List Row) → IsPermutation (of_pledges h f) (rows_at stood (f b) ++ rest f)
  before_put f = let inner = put_split n p 1 k.pledges in
      let more = rows_beside h b k is (λ c x. flat_map (f c) x.pledges) in
      IsPermutation-trans _ _ _ (rows_before h b k is (λ c x. flat_map (f c) x.pledges)) (IsPermutation-trans _ _ _
      (append_same _ _ more (IsPermutation-trans _ _ _ (IsPermutation-flat_map (f b) _ _ inner.1) (IsPermutation-same _ _ (flat_those (f b) stood inner.0))))
      (IsPermutation-same _ _ (append_assoc (rows_at stood (f b)) (flat_map (f b) inner.0) more)))

  pub after_put : (f : ℕ → PledgeValue → List Row) → IsPermutation (of_pledges changed f) (f b p ++ rest f)
  after_put f = let inner = put_split n p 1 k.pledges in
      let more = rows_beside h b k is (λ c x. flat_map (f c) x.pledges) in
      IsPermutation-trans _ _ _ (rows_after h b k is next (λ c x. flat_map (f c) x.pledges)) (IsPermutation-trans _ _ _
      (append_same _ _ more (IsPermutation-flat_map (f b) _ _ inner.2)) (IsPermutation-same _ _ (append_assoc (f b p) (flat_map (f b) inner.0) more)))

  own_rows : (f : ℕ → PledgeValue → List Row) → AreBooksOrdered h → ((m : ℕ) (q : PledgeValue) → AreUnder m q.agreement.number (f m q))
      → (o : Option PledgeValue) → stood ≡ o → filter (at_pledge b n) (rows_at o (f b)) ≡ rows_at o (f b)
  own_rows f ordered under' None e = refl
  own_rows f ordered under' (Some q) e =
      all_under b n (f b q) (subst (λ m. AreUnder b m (f b q)) (number_in h b n q ordered (ap (λ x. pledge_in x n) is ∙ e)) (under' b q))

  -- none of them is of the pledge
  pub none_rest : (f : ℕ → PledgeValue → List Row) → AreBooksOrdered h → ((m : ℕ) (q : PledgeValue) → AreUnder m q.agreement.number (f m q))
      → filter (at_pledge b n) (rest f) ≡ []
  none_rest f ordered under' =
      let mine : filter (at_pledge b n) (of_pledges h f) ≡ rows_at stood (f b) = of_one_pledge h b n f ordered under'
      ∙ ap (λ o. rows_at (pledge_in o n) (f b)) is in
      let own = own_rows f ordered under' stood refl in let len = length_permutation _ _ (IsPermutation-filter (at_pledge b n) _ _ (before_put f)) in
      let left : length (filter (at_pledge b n) (of_pledges h f)) ≡ length (rows_at stood (f b)) = ap length mine in
      let right : length (filter (at_pledge b n) (rows_at stood (f b) ++ rest f)) ≡ length (rows_at stood (f b)) + length (filter (at_pledge b n) (rest f)) =
      ap length (filter-append (at_pledge b n) (rows_at stood (f b)) (rest f) ∙ ap (λ l. l ++ filter (at_pledge b n) (rest f)) own)
      ∙ length-append (rows_at stood (f b)) (filter (at_pledge b n) (rest f)) in
      nil_from_length (filter (at_pledge b n) (rest f)) (omega (arith, len, left, right))

  -- the rows of a pledge that joins the book
  pub rows_joined : (f : ℕ → PledgeValue → List Row) → stood ≡ None → IsPermutation (of_pledges changed f) (f b p ++ of_pledges h f)
  rows_joined f none = more_joined [] (f b p) (f b p) (rest f) _ _ (subst (λ o. IsPermutation (of_pledges h f) (rows_at o (f b) ++ rest f)) none (before_put f))
      (after_put f) refl

  -- the rows of one that stands, where rows joined its own
  pub rows_grown : (f : ℕ → PledgeValue → List Row) (old : PledgeValue) (more : List Row) → stood ≡ Some old → f b p ≡ f b old ++ more
      → IsPermutation (of_pledges changed f) (more ++ of_pledges h f)
  rows_grown f old more some is_grown = more_joined (f b old) (f b p) more (rest f) _ _
      (subst (λ o. IsPermutation (of_pledges h f) (rows_at o (f b) ++ rest f)) some (before_put f)) (after_put f) is_grown

  -- as many pledges stand as before
  pub books_stay : length next.pledges ≡ length k.pledges
      → IsPermutation (map (λ (e : ℕ × BookValue). book_row e.0 e.1) (entries changed.books)) (map (λ (e : ℕ × BookValue). book_row e.0 e.1) (entries h.books))
  books_stay as_many =
      let same : book_row b next ≡ book_row b k = ap (λ m. number b ∷ word k.key ∷ Text k.name ∷ number k.capacity ∷ number (length k.terms) ∷ number m
      ∷ or_null word (import_key k.imported) ∷ or_null number (import_count k.imported) ∷ []) as_many in
      IsPermutation-trans _ _ _ (subst (λ r. IsPermutation (map (λ (e : ℕ × BookValue). book_row e.0 e.1) (entries changed.books)) (r ∷ other_books h b k is))
      same (books_after h b k is next)) (IsPermutation-sym _ _ (only_book h b k is 0).split)

  -- ---- how many rows are counted

  pub rows_put : rows changed + part pledge_row_count stood ≡ rows h + pledge_row_count p
  rows_put = let sums = rows-with_book h b next in
      let before : part book_row_count (get h.books b) ≡ book_row_count k = ap (part book_row_count) is in let pledges = put_sums n p 1 k.pledges in
      omega (arith, sums, before, pledges)

  -- a sound host has numbered pledges
  pub put_named : AreSound changed → n ≤ 1 + length k.pledges → 1 ≤ n → p.agreement.number ≡ n
  put_named sound high low = put_numbered n p 1 k.pledges high low (sound b next (found_after h b k is next)).1.rows.numbered
