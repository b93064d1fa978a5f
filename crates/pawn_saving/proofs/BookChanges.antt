-- What becomes of the rows of a host where a book is made, and where it gets terms.
use Rattle.pawn_saving.proofs.Basics.{get-with_book, nil_from_length, IsPermutation-refl, IsPermutation-flat_map, part}
use Rattle.pawn_saving.proofs.Basics.{rows-with_book, equals, of_one_book, rows_at}
use Rattle.pawn_saving.proofs.Changing.{joined, more_joined, replaced}
use Rattle.pawn_saving.proofs.Hosting.{AreSame, relisted}
use Rattle.pawn_saving.proofs.RowsInOrder.{placed_parts}
use Rattle.pawn_saving.specs.Common.{Database, changed_book, made_book, with_change, book_row_count, with_book, AddTerms}
use Rattle.pawn_saving.specs.Common.{MakeBook, NewBook, with_rows, ListsOurs}
use Rattle.pawn_saving.specs.Counted.{IsWrittenPart, ListsHost}
use Rattle.pawn_saving.specs.RowWrites.{IsOnly}
use Rattle.pawn_tables.proofs.Basics.{nat_tests, IsPermutation-map, IsPermutation-sym, IsPermutation-trans}
use Rattle.pawn_tables.proofs.Basics.{length_permutation, IsPermutation-filter}
use Rattle.pawn_tables.specs.At.{at_book}
use Rattle.pawn_tables.specs.Common.{entries, get, Row, Rates, BookValue, Host, rows}
use Rattle.pawn_tables.specs.Rows.{book_row, booking_listed, entries_listed, extensions_listed, number, pledge_listed}
use Rattle.pawn_tables.specs.Rows.{secrets_listed, terms_cells, terms_listed, totals_listed}
use Rattle.pawn_tables.specs.StandsFor.{listed_as, of_books}
use Rattle.std.proofs.Common.{◌≡◌, ◌≢◌, ◌++◌, ◌==◌, ℕ, suc, ◌+◌, List, [], ◌∷◌, map, filter, flat_map, length}
use Rattle.std.proofs.Common.{length-append, true, false, ◌&&◌, Some, None, refl, sym, ap, subst, ◌∙◌, arith}
use Rattle.std.proofs.Common.{IsPermutation, if◌then◌else◌}
use Rattle.std.proofs.lemmas.Bool.{and_left, cond-false, cond-true}
use Rattle.std.proofs.lemmas.List.Concat.{flat_map_single}

-- ---- a new book

module _ (h : Host) (b : ℕ) (new : NewBook) (none : get h.books b ≡ None) (counted : ℕ) where
  abbrev made : BookValue
  made = made_book new

  abbrev grown : Host
  grown = with_change h (MakeBook b new)

  beside : (f : ℕ → BookValue → List Row) → IsPermutation (of_books grown f) (f b made ++ of_books h f)
  beside f = IsPermutation-flat_map (λ (e : ℕ × BookValue). f e.0 e.1) _ _ (joined h.books b made none)

  made_same : AreSame (listed_as grown counted) (with_rows (listed_as h counted) 0 (book_row b made ∷ listed_as h counted 0))
  made_same = record {
    books = IsPermutation-map (λ (e : ℕ × BookValue). book_row e.0 e.1) _ _ (joined h.books b made none);
    terms = beside terms_listed;
    pledges = beside (λ c k. flat_map (pledge_listed c) k.pledges);
    entries = beside (λ c k. flat_map (entries_listed c) k.pledges);
    secrets = beside (λ c k. flat_map (secrets_listed c) k.pledges);
    bookings = beside (λ c k. flat_map (booking_listed c) k.pledges);
    meta = IsPermutation-refl _;
    totals = beside (λ c k. flat_map (totals_listed c) k.pledges);
    extensions = beside (λ c k. flat_map (extensions_listed c) k.pledges);
  }

  pub made_written : (db : Database) → counted ≡ rows h → ListsOurs db (with_rows (listed_as h counted) 0 (book_row b made ∷ listed_as h counted 0))
      → IsWrittenPart h grown db 1
  made_written db is l = record {
    lists = subst (ListsHost db grown) is (relisted db _ _ made_same l);
    grown = let sums = rows-with_book h b made in
        let before : part book_row_count (get h.books b) ≡ 0 = ap (part book_row_count) none in omega (arith, sums, before);
  }

-- ---- the row of a book, and those of the others

other_book : (b m : ℕ) (k : BookValue) → m ≢ b → filter (at_book b) (book_row m k ∷ []) ≡ []
other_book b m k apart = let x : (m == b) ≡ false = grind (arith, nat_tests, apart) in cond-false _ _ _ (and_left _ true (equals m b ∙ x))

pub own_passes : (b : ℕ) (k : BookValue) → at_book b (book_row b k) ≡ true
own_passes b k = let x : (b == b) ≡ true = grind (arith, nat_tests) in (λ i. equals b b i && true) ∙ (λ i. x i && true)

-- of the rows of the books only one is of this book
pub books_only : (h : Host) (b : ℕ) (k : BookValue) (others : List (ℕ × BookValue)) → get h.books b ≡ Some k → IsPermutation (entries h.books) ((b, k) ∷ others)
    → IsOnly (at_book b) (map (λ (e : ℕ × BookValue). book_row e.0 e.1) (entries h.books)) (book_row b k) (map (λ (e : ℕ × BookValue). book_row e.0 e.1) others)
books_only h b k others is split = let row_of = λ (e : ℕ × BookValue). book_row e.0 e.1 in
    let same = IsPermutation-map row_of _ _ split in
    let one : filter (at_book b) (map row_of (entries h.books)) ≡ book_row b k ∷ [] =
    ap (filter (at_book b)) (sym (flat_map_single row_of (entries h.books))) ∙ of_one_book h b (at_book b) (λ m x. book_row m x ∷ []) (other_book b)
    ∙ ap (λ o. rows_at o (λ x. filter (at_book b) (book_row b x ∷ []))) is ∙ cond-true _ _ _ (own_passes b k) in
    let len = length_permutation _ _ (IsPermutation-filter (at_book b) _ _ same) in
    let left : length (filter (at_book b) (map row_of (entries h.books))) ≡ 1 = ap length one in
    let right : length (filter (at_book b) (book_row b k ∷ map row_of others)) ≡ suc (length (filter (at_book b) (map row_of others))) =
    ap length (cond-true _ _ _ (own_passes b k)) in
    record { split = same; none = nil_from_length _ (omega (arith, len, left, right)) }

-- ---- a book that takes the place of another

module _ (h : Host) (b : ℕ) (k : BookValue) (is : get h.books b ≡ Some k) where
  abbrev pub other_books : List Row
  other_books = map (λ (e : ℕ × BookValue). book_row e.0 e.1) (replaced h.books b k is).0

  pub only_book : (counted : ℕ) → IsOnly (at_book b) (listed_as h counted 0) (book_row b k) other_books
  only_book counted = books_only h b k (replaced h.books b k is).0 is (replaced h.books b k is).1

  -- the rows of the other books
  abbrev pub rows_beside : (ℕ → BookValue → List Row) → List Row
  rows_beside f = flat_map (λ (e : ℕ × BookValue). f e.0 e.1) (replaced h.books b k is).0

  pub rows_before : (f : ℕ → BookValue → List Row) → IsPermutation (of_books h f) (f b k ++ rows_beside f)
  rows_before f = IsPermutation-flat_map (λ (e : ℕ × BookValue). f e.0 e.1) _ _ (replaced h.books b k is).1

  module _ (next : BookValue) where
    pub books_after : IsPermutation (map (λ (e : ℕ × BookValue). book_row e.0 e.1) (entries (with_book h b (Some next)).books)) (book_row b next ∷ other_books)
    books_after = IsPermutation-map (λ (e : ℕ × BookValue). book_row e.0 e.1) _ _ ((replaced h.books b k is).2 next)

    pub rows_after : (f : ℕ → BookValue → List Row) → IsPermutation (of_books (with_book h b (Some next)) f) (f b next ++ rows_beside f)
    rows_after f = IsPermutation-flat_map (λ (e : ℕ × BookValue). f e.0 e.1) _ _ ((replaced h.books b k is).2 next)

    -- rows that the book has as before, and rows that it has beside them
    pub rows_stay : (f : ℕ → BookValue → List Row) → f b next ≡ f b k → IsPermutation (of_books (with_book h b (Some next)) f) (of_books h f)
    rows_stay f same = IsPermutation-trans _ _ _ (rows_after f)
        (subst (λ l. IsPermutation (l ++ rows_beside f) (of_books h f)) (sym same) (IsPermutation-sym _ _ (rows_before f)))

    pub rows_more : (f : ℕ → BookValue → List Row) (more : List Row) → f b next ≡ f b k ++ more
        → IsPermutation (of_books (with_book h b (Some next)) f) (more ++ of_books h f)
    rows_more f more is_more = more_joined (f b k) (f b next) more (rows_beside f) _ _ (rows_before f) (rows_after f) is_more

    pub found_after : get (with_book h b (Some next)).books b ≡ Some next
    found_after = let here : (b == b) ≡ true = grind (arith, nat_tests) in get-with_book h b next b ∙ ap (λ v. if v then Some next else get h.books b) here

-- ---- terms that are added

module _ (h : Host) (b version : ℕ) (t : Rates) (k : BookValue) (is : get h.books b ≡ Some k) (at : version ≡ length k.terms + 1) (counted : ℕ) where
  abbrev next : BookValue
  next = record k { terms = k.terms ++ t ∷ [] }

  abbrev longer : Host
  longer = with_book h b (Some next)

  is_longer : with_change h (AddTerms b version t) ≡ longer
  is_longer = ap (λ o. with_book h b (changed_book o (AddTerms b version t))) is

  abbrev row : Row
  row = number b ∷ number version ∷ terms_cells t

  listed : terms_listed b next ≡ terms_listed b k ++ row ∷ []
  listed = placed_parts (λ v r. number b ∷ number v ∷ terms_cells r) 1 version k.terms (t ∷ []) (omega (arith, at))

  longer_same : AreSame (listed_as longer counted)
      (with_rows (with_rows (listed_as h counted) 1 (row ∷ listed_as h counted 1)) 0 (book_row b next ∷ other_books h b k is))
  longer_same = record {
    books = books_after h b k is next;
    terms = rows_more h b k is next terms_listed (row ∷ []) listed;
    pledges = rows_stay h b k is next (λ c x. flat_map (pledge_listed c) x.pledges) refl;
    entries = rows_stay h b k is next (λ c x. flat_map (entries_listed c) x.pledges) refl;
    secrets = rows_stay h b k is next (λ c x. flat_map (secrets_listed c) x.pledges) refl;
    bookings = rows_stay h b k is next (λ c x. flat_map (booking_listed c) x.pledges) refl;
    meta = IsPermutation-refl _;
    totals = rows_stay h b k is next (λ c x. flat_map (totals_listed c) x.pledges) refl;
    extensions = rows_stay h b k is next (λ c x. flat_map (extensions_listed c) x.pledges) refl;
  }

  pub longer_written : (db : Database) → counted ≡ rows h → ListsOurs db (with_rows (with_rows (listed_as h counted) 1 (row ∷ listed_as h counted 1)) 0
      (book_row b next ∷ other_books h b k is)) → IsWrittenPart h (with_change h (AddTerms b version t)) db 1
  longer_written db same l = subst (λ g. IsWrittenPart h g db 1) (sym is_longer) (record {
    lists = subst (ListsHost db longer) same (relisted db _ _ longer_same l);
    grown = let sums = rows-with_book h b next in
        let before : part book_row_count (get h.books b) ≡ book_row_count k = ap (part book_row_count) is in let more = length-append k.terms (t ∷ []) in
        omega (arith, sums, before, more);
  })
