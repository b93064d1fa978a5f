-- What the queries of a book show, where the tables stand for a host.
use Rattle.one_table.proofs.Found.{shown_first, shown_listed}
use Rattle.pawn_tables.proofs.Basics.{nat_tests, filter_agree, ascending-filter, filter-map, map-map, value_cmp-Int}
use Rattle.pawn_tables.proofs.Basics.{value_cmp-Text}
use Rattle.pawn_tables.proofs.PledgeReads.{few_of, one_mapped, one_listed}
use Rattle.pawn_tables.proofs.RowsUnderKey.{both_pass, lower_key, same_key, truth_of, equals, less, of_one_book}
use Rattle.pawn_tables.proofs.RowsUnderKey.{rows_at}
use Rattle.pawn_tables.specs.At.{at_book, is_above, is_at, is_below, is_from}
use Rattle.pawn_tables.specs.Common.{entries, entries_sorted, find_key, get, get-entries, is_sorted, below_all}
use Rattle.pawn_tables.specs.Common.{AllByRecursion, list_all, is_eq, is_ge, is_gt, is_lt, nat_cmp, Less, binary, Row}
use Rattle.pawn_tables.specs.Common.{column, value_cmp, Shown, State, Table, IsAscending, Text, BookValue, Host, rows}
use Rattle.pawn_tables.specs.Common.{IsNextBook, is_same_text}
use Rattle.pawn_tables.specs.Heads.{number_cells}
use Rattle.pawn_tables.specs.Meta.{meta_row, meta_rows}
use Rattle.pawn_tables.specs.Ours.{with_indexes}
use Rattle.pawn_tables.specs.Rows.{at_most_one, book_row, head_cells, number}
use Rattle.pawn_tables.specs.Schema.{books, books_tree, meta, meta_tree}
use Rattle.pawn_tables.specs.StandsFor.{ListDebts, StandsFor}
use Rattle.std.proofs.Common.{◌≡◌, ◌==◌, ℕ, ◌≤◌, ◌<◌, List, [], ◌∷◌, map, filter, take, codes, Bool, true, false, cond}
use Rattle.std.proofs.Common.{Option, Some, None, T, refl, sym, ap, subst, ◌∙◌, arith, IsPermutation, nat_lt, find}
use Rattle.std.proofs.Common.{option_map, nat_le}
use Rattle.std.proofs.Math.Bool.{and-true}
use Rattle.std.proofs.lemmas.List.Concat.{flat_map_single}
use Rattle.std.specs.Cmp.Lexicographic.{texts_ties}
use Rattle.std.specs.Prelude.{pos}
use Rattle.pawn_tables.proofs.ReadTexts as text

-- SQL's > on numbers
pub above : (m n : ℕ) → is_above (number m) (number n) ≡ nat_lt n m
unfolding binary
above m n = truth_of _ ∙ ap is_gt (value_cmp-Int (pos m) (pos n)) ∙ grind (arith, nat_tests)

-- SQL's < on numbers
pub lesser : (m n : ℕ) → is_below (number m) (number n) ≡ nat_lt m n
unfolding binary
lesser m n = truth_of _ ∙ ap is_lt (value_cmp-Int (pos m) (pos n)) ∙ grind (arith, nat_tests)

-- SQL's >= on numbers
pub at_least : (m n : ℕ) → is_from (number m) (number n) ≡ nat_le n m
unfolding binary
at_least m n = truth_of _ ∙ ap is_ge (value_cmp-Int (pos m) (pos n)) ∙ grind (arith, nat_tests)

-- SQL's = on texts
pub same_texts : (s t : List ℕ) → is_at (Text s) (Text t) ≡ is_same_text s t
unfolding binary
same_texts s t = truth_of _ ∙ ap is_eq (value_cmp-Text s t) ∙ sym (texts_ties s t)

abbrev pub book_rows_of : Host → List Row
book_rows_of h = map (λ (e : ℕ × BookValue). book_row e.0 e.1) (entries h.books)

-- ---- the head of a book

kept_one : (b m : ℕ) (k : BookValue) (c : Bool) → (m == b) ≡ c → filter (at_book b) (book_row m k ∷ []) ≡ cond c (book_row m k ∷ []) []
kept_one b m k c is = ap (λ x. cond x (book_row m k ∷ []) []) (and-true _ ∙ equals m b ∙ is)

pub one_book : (h : Host) (b : ℕ) → map (λ v. column v 1 ∷ column v 2 ∷ column v 3 ∷ column v 4 ∷ column v 5 ∷ column v 6 ∷ column v 7 ∷ [])
    (filter (at_book b) (book_rows_of h)) ≡ at_most_one head_cells (get h.books b)
one_book h b = ap (map (λ v. column v 1 ∷ column v 2 ∷ column v 3 ∷ column v 4 ∷ column v 5 ∷ column v 6 ∷ column v 7 ∷ []))
    (ap (filter (at_book b)) (sym (flat_map_single (λ (e : ℕ × BookValue). book_row e.0 e.1) (entries h.books)))
    ∙ of_one_book h b (at_book b) (λ m k. book_row m k ∷ []) (λ m k apart. kept_one b m k false (grind (arith, nat_tests, apart))) ∙ here (get h.books b))
    ∙ shows (get h.books b) where
      here : (o : Option BookValue) → rows_at o (λ k. filter (at_book b) (book_row b k ∷ [])) ≡ rows_at o (λ k. book_row b k ∷ [])
      here None = refl
      here (Some k) = kept_one b b k true (grind (arith, nat_tests))

      shows : (o : Option BookValue) → map (λ v. column v 1 ∷ column v 2 ∷ column v 3 ∷ column v 4 ∷ column v 5 ∷ column v 6 ∷ column v 7 ∷ [])
          (rows_at o (λ k. book_row b k ∷ [])) ≡ at_most_one head_cells o
      shows None = refl
      shows (Some k) = refl

pub head_shown : (old new : State) (h : Host) (b : ℕ) (rows : List Row) → StandsFor old.now h → Shown text.READ_HEAD.now (number b ∷ []) old new rows
    → rows ≡ at_most_one head_cells (get h.books b)
head_shown old new h b rows st shown = let t : Table = record books { tree = books_tree } in
    let cells : Row → Row = λ v. column v 1 ∷ column v 2 ∷ column v 3 ∷ column v 4 ∷ column v 5 ∷ column v 6 ∷ column v 7 ∷ [] in
    one_listed rows _ (few_of head_cells (get h.books b)) (subst (λ xs. IsPermutation xs rows) (one_book h b)
    (shown_listed (with_indexes st.schema.more) books_tree (λ _. refl) t text.of_book text.head_shows (number b ∷ []) (at_book b) cells (λ _. refl)
    (λ _. refl) text.READ_HEAD.now _ [] ((text.texts st.schema.more).head_is) old new _ rows st.schema.is st.books shown))

-- ---- the count of rows

abbrev is_rows : Row → Bool
is_rows v = list_all (λ (x : Bool). x) (is_at (column v 0) (Text (codes "rows")) ∷ [])

counted_alone : (counted limit : ℕ) → filter is_rows (meta_rows counted limit) ≡ meta_row (codes "rows") counted ∷ []
unfolding binary value_cmp lib.Ieee.is_nan lib.Ieee.lt
counted_alone counted limit = refl

pub rows_shown : (old new : State) (h : Host) (found : List Row) → StandsFor old.now h → Shown text.READ_ROWS.now [] old new found
    → found ≡ number_cells (rows h) ∷ []
rows_shown old new h found st shown = let t : Table = record meta { tree = meta_tree } in
    let cells : Row → Row = λ v. column v 1 ∷ [] in
    one_listed found _ (omega arith) (subst (λ xs. IsPermutation xs found) (ap (map cells) (counted_alone (rows h) h.limit))
    (shown_listed (with_indexes st.schema.more) meta_tree (λ _. refl) t text.rows_tests text.one_shown [] is_rows cells (λ _. refl)
    (λ _. refl) text.READ_ROWS.now _ [] ((text.texts st.schema.more).rows_is) old new _ found st.schema.is st.meta shown))

-- ---- the next book

-- the rows of books stand in the order of their numbers
pub books_rise : {X : Type 0} (row : ℕ × X → Row) → ((e : ℕ × X) → column (row e) 0 ≡ number e.0) → (es : List (ℕ × X)) → T (is_sorted nat_cmp es)
    → IsAscending (λ a b. value_cmp (column a 0) (column b 0) ≡ Less) (map row es)
books_rise row is [] h = tt
books_rise {X} row is (e ∷ es) h = (each es (both_pass _ _ h).0, books_rise row is es (both_pass _ _ h).1) where
  each : (fs : List (ℕ × X)) → T (below_all nat_cmp e.0 fs) → AllByRecursion (λ r. value_cmp (column (row e) 0) (column r 0) ≡ Less) (map row fs)
  each [] h = tt
  each (f ∷ fs) h = ((λ i. value_cmp (is e i) (is f i)) ∙ less e.0 f.0 (lower_key e.0 f.0 (both_pass _ _ h).0), each fs (both_pass _ _ h).1)

abbrev pub is_later : ℕ → Row → Bool
is_later n v = list_all (λ (x : Bool). x) (is_above (column v 0) (number n) ∷ [])

abbrev Entry : Type 0
Entry = ℕ × BookValue

-- the first book above a number
abbrev pub next_of : Host → ℕ → Option ℕ
next_of h n = option_map (λ (e : Entry). e.0) (find (λ (e : Entry). nat_lt n e.0) (entries h.books))

first_one : {A : Type 0} (p : A → Bool) (f : A → Row) (xs : List A) → take 1 (map f (filter p xs)) ≡ at_most_one f (find p xs)
first_one p f [] = refl
first_one p f (x ∷ xs) = elim (p x) as
    (λ c. take 1 (map f (cond c (x ∷ filter p xs) (filter p xs))) ≡ at_most_one f (cond c (Some x) (find p xs))) [ true ↦ refl | false ↦ first_one p f xs ]

pub next_shown : (old new : State) (h : Host) (n : ℕ) (rows : List Row) → ListDebts old.now h → Shown text.FIND_NEXT_BOOK.now (number n ∷ []) old new rows
    → rows ≡ at_most_one number_cells (next_of h n)
next_shown old new h n rows st shown = let t : Table = record books { tree = books_tree } in
    let cells : Row → Row = λ v. column v 0 ∷ [] in let row : Entry → Row = λ e. book_row e.0 e.1 in
    let up = ascending-filter (λ a b. value_cmp (column a 0) (column b 0) ≡ Less) (is_later n) _
    (books_rise row (λ e. refl) (entries h.books) (entries_sorted h.books)) in
    shown_first (with_indexes st.schema.more) books_tree (λ _. refl) t text.next_tests text.next_shows (number n ∷ []) (is_later n) cells (λ _. refl)
    (λ _. refl) 0 (λ v. column v 0) (λ _. refl) text.FIND_NEXT_BOOK.now _ ((text.texts st.schema.more).next_is) old new
    (book_rows_of h) rows st.schema.is st.books up shown ∙ ap (λ xs. take 1 (map cells xs)) (filter-map (is_later n) row (entries h.books)
    ∙ ap (map row) (filter_agree _ _ (λ e. and-true _ ∙ above e.0 n) (entries h.books))) ∙ ap (take 1) (map-map cells row _)
    ∙ first_one (λ (e : Entry). nat_lt n e.0) (λ (e : Entry). number_cells e.0) (entries h.books) ∙ one_mapped (λ (e : Entry). e.0) number_cells _

-- ---- it is the least

none_above : (n : ℕ) (es : List Entry) → find (λ (e : Entry). nat_lt n e.0) es ≡ None → (b : ℕ) (k : BookValue) → find_key nat_cmp b es ≡ Some k → b ≤ n
none_above n [] none b k at = absurd (let e = at in cc)
none_above n (e ∷ es) none b k at = go (λ none at. none_above n es none b k at) (nat_lt n e.0) refl (is_eq (nat_cmp b e.0)) refl none at where
  go : (find (λ (e : Entry). nat_lt n e.0) es ≡ None → find_key nat_cmp b es ≡ Some k → b ≤ n) → (c : Bool) → nat_lt n e.0 ≡ c → (d : Bool)
      → is_eq (nat_cmp b e.0) ≡ d → cond c (Some e) (find (λ (e : Entry). nat_lt n e.0) es) ≡ None → cond d (Some e.1) (find_key nat_cmp b es) ≡ Some k → b ≤ n
  go rest true up d here none at = absurd (let x = none in cc)
  go rest false up true here none at = let same = same_key e.0 b here in grind (arith, nat_tests, up, same)
  go rest false up false here none at = rest none at

-- a key that is found after a lower bound
pub below_key : (n : ℕ) (es : List Entry) → T (below_all nat_cmp n es) → (b : ℕ) (k : BookValue) → find_key nat_cmp b es ≡ Some k → n < b
below_key n [] low' b k at = absurd (let e = at in cc)
below_key n (e ∷ es) low' b k at = go (λ at. below_key n es (both_pass _ _ low').1 b k at) (is_eq (nat_cmp b e.0)) refl at where
  go : (find_key nat_cmp b es ≡ Some k → n < b) → (d : Bool) → is_eq (nat_cmp b e.0) ≡ d → cond d (Some e.1) (find_key nat_cmp b es) ≡ Some k → n < b
  go rest true here at = let same = same_key e.0 b here in let under = lower_key n e.0 (both_pass _ _ low').0 in omega (arith, same, under)
  go rest false here at = rest at

-- a book, above the number, and no other above it is less
abbrev IsLeast : ℕ → List Entry → Entry → Type 0
IsLeast n es x = (n < x.0) × (find_key nat_cmp x.0 es ≡ Some x.1) × ((b : ℕ) (k : BookValue) → find_key nat_cmp b es ≡ Some k → n < b → x.0 ≤ b)

least_above : (n : ℕ) (es : List Entry) → T (is_sorted nat_cmp es) → (x : Entry) → find (λ (e : Entry). nat_lt n e.0) es ≡ Some x → IsLeast n es x
least_above n [] sorted x at = absurd (let e = at in cc)
least_above n (e ∷ es) sorted x at = go (λ at. least_above n es (both_pass _ _ sorted).1 x at) (nat_lt n e.0) refl at where
  first : (d : Bool) (b : ℕ) (k : BookValue) → is_eq (nat_cmp b e.0) ≡ d → cond d (Some e.1) (find_key nat_cmp b es) ≡ Some k → e.0 ≤ b
  first true b k here at = let same = same_key e.0 b here in omega (arith, same)
  first false b k here at = let under = below_key e.0 es (both_pass _ _ sorted).0 b k at in omega (arith, under)

  later : (d : Bool) (b : ℕ) (k : BookValue) → is_eq (nat_cmp b e.0) ≡ d → nat_lt n e.0 ≡ false → IsLeast n es x
      → cond d (Some e.1) (find_key nat_cmp b es) ≡ Some k → n < b → x.0 ≤ b
  later true b k here up least at lt = absurd (let same = same_key e.0 b here in grind (arith, nat_tests, up, same, lt))
  later false b k here up least at lt = least.2 b k at lt

  go : (find (λ (e : Entry). nat_lt n e.0) es ≡ Some x → IsLeast n es x) → (c : Bool) → nat_lt n e.0 ≡ c
      → cond c (Some e) (find (λ (e : Entry). nat_lt n e.0) es) ≡ Some x → IsLeast n (e ∷ es) x
  go rest true up at = let same : e ≡ x = (let y = at in cc) in
      let this : is_eq (nat_cmp e.0 e.0) ≡ true = grind (arith, nat_tests) in
      subst (IsLeast n (e ∷ es)) same
      (grind (arith, nat_tests, up), ap (λ c. cond c (Some e.1) (find_key nat_cmp e.0 es)) this, λ b k at lt. first _ b k refl at)
  go rest false up at = let least = rest at in
      let above' = least.0 in let other : is_eq (nat_cmp x.0 e.0) ≡ false = grind (arith, nat_tests, up, above') in
      (above', ap (λ c. cond c (Some e.1) (find_key nat_cmp x.0 es)) other ∙ least.1, λ b k at lt. later _ b k refl up least at lt)

pub is_next : (h : Host) (n : ℕ) → IsNextBook h n (next_of h n)
is_next h n = go (find (λ (e : Entry). nat_lt n e.0) (entries h.books)) refl where
  go : (o : Option Entry) → find (λ (e : Entry). nat_lt n e.0) (entries h.books) ≡ o → IsNextBook h n (option_map (λ (e : Entry). e.0) o)
  go None none = λ b k at. none_above n (entries h.books) none b k (sym (get-entries h.books b) ∙ at)
  go (Some x) at = let least = least_above n (entries h.books) (entries_sorted h.books) x at in
      (least.0, (x.1, get-entries h.books x.0 ∙ least.1), λ b k at lt. least.2 b k (sym (get-entries h.books b) ∙ at) lt)
