-- What is written where a book is filled: the rows of the changed host.
use Rattle.pawn_saving.proofs.Basics.{IsPermutation-refl, part, rows-with_book, clean_before, under_booked, equals}
use Rattle.pawn_saving.proofs.Basics.{of_one_pledge, rows_at}
use Rattle.pawn_saving.proofs.BookChanges.{books_after, found_after, other_books, rows_more}
use Rattle.pawn_saving.proofs.Changing.{more_joined}
use Rattle.pawn_saving.proofs.Hosting.{AreSame, relisted, relisted_by}
use Rattle.pawn_saving.proofs.RowsInOrder.{carried_then, until}
use Rattle.pawn_saving.specs.Common.{Database, changed_book, filled_book, IsUnfilled, with_change, book_row_count}
use Rattle.pawn_saving.specs.Common.{pledge_row_count, with_book, AreSound, ImportBook, BookRows, with_rows, ListsOurs}
use Rattle.pawn_saving.specs.Counted.{IsWrittenPart, ListsHost}
use Rattle.pawn_saving.specs.Importing.{whole_pledges}
use Rattle.pawn_saving.specs.Putting.{beside, booking_under, whole_pledge}
use Rattle.pawn_saving.specs.RowWrites.{IsCarried}
use Rattle.pawn_tables.proofs.Basics.{nat_tests, filter-append, flat_map_none}
use Rattle.pawn_tables.specs.At.{at_pledge}
use Rattle.pawn_tables.specs.Common.{get, Row, HasCleanDisk, State, PledgeValue, Booking, BookValue, pledge_from}
use Rattle.pawn_tables.specs.Common.{pledge_in, Host, rows, AreNumberedFrom, IsLent, Listed}
use Rattle.pawn_tables.specs.Rows.{at_most_one, book_row, booking_cells, booking_listed, entries_listed}
use Rattle.pawn_tables.specs.Rows.{extensions_listed, number, number_in_book, placed_from, pledge_listed}
use Rattle.pawn_tables.specs.Rows.{secrets_listed, terms_cells, terms_listed, totals_listed, under}
use Rattle.pawn_tables.specs.Schema.{bookings_tree}
use Rattle.pawn_tables.specs.StandsFor.{AreBooksOrdered, listed_as, of_pledges}
use Rattle.std.proofs.Common.{◌≡◌, ◌≢◌, ◌++◌, ◌==◌, ◌&&◌, ℕ, ◌+◌, ◌<◌, ◌≤◌, zero, suc, List, [], ◌∷◌, take, filter}
use Rattle.std.proofs.Common.{flat_map, length, get_or, append-nil, true, false, Option, Some, None, IsTrue, Result, Ok}
use Rattle.std.proofs.Common.{Err, IfOk, refl, sym, ap, subst, ◌∙◌, arith, IsPermutation, sum_by, take_all}
use Rattle.std.proofs.lemmas.Bool.{and_left, and_right, cond-false}
use Rattle.std.proofs.lemmas.Grind.{flat_map-append}
use Rattle.std.proofs.lemmas.List.Sums.{sum_by_push}

-- ---- no booking of the next pledge stands among those before it

not_booked : (b n m : ℕ) (o : Option Booking) → m ≢ n → filter (at_pledge b n) (at_most_one (λ k. under b m (booking_cells k)) o) ≡ []
not_booked b n m None other = refl
not_booked b n m (Some k) other = let apart : (m == n) ≡ false = grind (arith, nat_tests, other) in
    cond-false _ _ _ ((λ i. equals b b i && (equals m n i && true)) ∙ and_right (b == b) _ (and_left _ true apart))

none_before : (b k n : ℕ) (ps : List PledgeValue) (i : ℕ) → AreNumberedFrom k ps → k + i ≤ n
    → filter (at_pledge b n) (flat_map (λ p. booking_under b (number_in_book p) p) (take i ps)) ≡ []
none_before b k n [] zero numbered low = refl
none_before b k n [] (suc i) numbered low = refl
none_before b k n (p ∷ ps) zero numbered low = refl
none_before b k n (p ∷ ps) (suc i) numbered low = let at = numbered.0 in
    let later = flat_map (λ p. booking_under b (number_in_book p) p) (take i ps) in
    filter-append (at_pledge b n) (booking_under b (number_in_book p) p) later ∙ ap (λ l. l ++ filter (at_pledge b n) later) (not_booked b n
    (number_in_book p) p.standing.booking (λ same. absurd (omega (arith, same, at, low)))) ∙ none_before b (k + 1) n ps i numbered.1 (omega (arith, low))

number_at : (k : ℕ) (ps : List PledgeValue) (i : ℕ) (p : PledgeValue) → AreNumberedFrom k ps → i < length ps → p ≡ get_or ps i p → number_in_book p ≡ k + i
number_at k [] i p numbered lt is = absurd (omega (arith, lt))
number_at k (q ∷ ps) zero p numbered lt is = ap (λ (x : PledgeValue). number_in_book x) is ∙ numbered.0 ∙ omega arith
number_at k (q ∷ ps) (suc i) p numbered lt is = let rest = number_at (k + 1) ps i p numbered.1 (omega (arith, lt)) is in omega (arith, rest)

next_unbooked : (b : ℕ) (ps : List PledgeValue) (i : ℕ) (p : PledgeValue) (bookings : List Row) → ((n : ℕ) → filter (at_pledge b n) bookings ≡ [])
    → AreNumberedFrom 1 ps → i < length ps → p ≡ get_or ps i p
    → filter (at_pledge b (number_in_book p)) (flat_map (λ q. booking_under b (number_in_book q) q) (take i ps) ++ bookings) ≡ []
next_unbooked b ps i p bookings none numbered lt is = let at = number_at 1 ps i p numbered lt is in
    let test = at_pledge b (number_in_book p) in
    filter-append test (flat_map (λ q. booking_under b (number_in_book q) q) (take i ps)) bookings
    ∙ ap (λ l. l ++ filter test bookings) (none_before b 1 (number_in_book p) ps i numbered (omega (arith, at))) ∙ none (number_in_book p)

-- ---- pledges one after another

one_more : {A : Type 0} (f : A → List Row) (xs : List A) (i : ℕ) (x : A) (others : List Row) → i < length xs → x ≡ get_or xs i x
    → IsPermutation (flat_map f (take (i + 1) xs) ++ others) (f x ++ (flat_map f (take i xs) ++ others))
one_more f xs i x others lt is =
    more_joined (flat_map f (take i xs)) (flat_map f (take (i + 1) xs)) (f x) others _ _ (IsPermutation-refl _) (IsPermutation-refl _)
    (ap (flat_map f) (until xs i x lt is) ∙ flat_map-append f (take i xs) (x ∷ []) ∙ ap (λ l. flat_map f (take i xs) ++ l) (append-nil (f x)))

module _ (b : ℕ) (ps : List PledgeValue) (i : ℕ) (p : PledgeValue) (lt : i < length ps) (is : p ≡ get_or ps i p) (listed : Listed) where
  one_beside : (db : Database) → ListsOurs db (beside (whole_pledge b (number_in_book p) p) (beside (whole_pledges b (take i ps)) listed))
      → ListsOurs db (beside (whole_pledges b (take (i + 1) ps)) listed)
  one_beside db l = relisted_by db (beside (whole_pledges b (take (i + 1) ps)) listed) (beside (whole_pledge b (number_in_book p) p)
      (beside (whole_pledges b (take i ps)) listed)) (λ t. one_more (λ q. whole_pledge b (number_in_book q) q t) ps i p (listed t) lt is) l

-- the first so many of the pledges were put, with so many rows that are counted
pub record ArePledgesPut (old new : State) (b : ℕ) (ps : List PledgeValue) (i counted : ℕ) : Type 0 where
  pub carried : IsCarried old new true
  pub wrote : HasCleanDisk new → IsTrue old.in_transaction → (listed : Listed) → ((n : ℕ) → filter (at_pledge b n) (listed bookings_tree) ≡ [])
      → AreNumberedFrom 1 ps → ListsOurs old.now listed
      → (counted ≡ sum_by pledge_row_count (take i ps)) × ListsOurs new.now (beside (whole_pledges b (take i ps)) listed)

pub one_pledge_put : (old mid new : State) (b i counted added sum : ℕ) (ps : List PledgeValue) (p : PledgeValue) → i < length ps → p ≡ get_or ps i p
    → sum ≡ counted + added → ArePledgesPut old mid b ps i counted → IsLent mid new true
    → (HasCleanDisk new → IsTrue mid.in_transaction → (listed : Listed) → filter (at_pledge b (number_in_book p)) (listed bookings_tree) ≡ []
    → ListsOurs mid.now listed → (added ≡ pledge_row_count p) × ListsOurs new.now (beside (whole_pledge b (number_in_book p) p) listed))
    → ArePledgesPut old new b ps (i + 1) sum
one_pledge_put old mid new b i counted added sum ps p lt is sums put lent wrote = record {
  carried = carried_then old mid new true put.carried lent;
  wrote = λ clean within listed none numbered l.
      let was = clean_before mid new true lent clean in let so_far = put.wrote was within listed none numbered l in
      let one = wrote clean (put.carried.inside was within refl) (beside (whole_pledges b (take i ps)) listed)
      (next_unbooked b ps i p (listed bookings_tree) none numbered lt is) so_far.1 in
      let before = so_far.0 in let more = one.0 in
      let longer : sum_by pledge_row_count (take (i + 1) ps) ≡ sum_by pledge_row_count (take i ps) + pledge_row_count p =
      ap (sum_by pledge_row_count) (until ps i p lt is)
      ∙ sum_by_push pledge_row_count (take i ps) p in
      (omega (arith, sums, before, more, longer), one_beside b ps i p lt is listed new.now one.1);
}

pub all_pledges_put : (old new : State) (b : ℕ) (ps : List PledgeValue) (i counted : ℕ) → length ps ≤ i → ArePledgesPut old new b ps i counted
    → HasCleanDisk new → IsTrue old.in_transaction → (listed : Listed) → ((n : ℕ) → filter (at_pledge b n) (listed bookings_tree) ≡ []) → AreNumberedFrom 1 ps
    → ListsOurs old.now listed → (counted ≡ sum_by pledge_row_count ps) × ListsOurs new.now (beside (whole_pledges b ps) listed)
all_pledges_put old new b ps i counted end put clean within listed none numbered l =
    subst (λ qs. (counted ≡ sum_by pledge_row_count qs) × ListsOurs new.now (beside (whole_pledges b qs) listed)) (take_all i ps end)
    (put.wrote clean within listed none numbered l)

-- ---- a book without terms and pledges

module _ (h : Host) (b key : ℕ) (k : BookValue) (brought : BookRows) (is : get h.books b ≡ Some k) (empty : IsUnfilled k) where
  abbrev pub filled : BookValue
  filled = filled_book k key brought

  abbrev pub changed : Host
  changed = with_book h b (Some filled)

  is_changed : with_change h (ImportBook b key brought) ≡ changed
  is_changed = ap (λ o. with_book h b (changed_book o (ImportBook b key brought))) is

  pub unbooked : AreBooksOrdered h → (n : ℕ) → filter (at_pledge b n) (of_pledges h booking_listed) ≡ []
  unbooked ordered n = of_one_pledge h b n booking_listed ordered (λ m q. under_booked m q.agreement.number q.standing.booking)
      ∙ ap (λ o. rows_at (pledge_in o n) (booking_listed b)) is ∙ ap (λ ps. rows_at (pledge_from 1 ps n) (booking_listed b)) empty.pledges

  pub brought_numbered : AreSound (with_change h (ImportBook b key brought)) → AreNumberedFrom 1 brought.pledges
  brought_numbered sound = (subst AreSound is_changed sound b filled (found_after h b k is filled)).1.rows.numbered

  joined_pledges : (f : ℕ → PledgeValue → List Row) → IsPermutation (of_pledges changed f) (flat_map (f b) brought.pledges ++ of_pledges h f)
  joined_pledges f = rows_more h b k is filled (λ c x. flat_map (f c) x.pledges) (flat_map (f b) brought.pledges)
      (ap (λ ps. flat_map (f b) ps ++ flat_map (f b) brought.pledges) (sym empty.pledges))

  -- tables in which no pledge has a row
  no_more : (xs ys : List Row) → IsPermutation xs ys → IsPermutation xs (flat_map (λ (p : PledgeValue). []) brought.pledges ++ ys)
  no_more xs ys same = subst (λ l. IsPermutation xs (l ++ ys)) (sym (flat_map_none (λ (p : PledgeValue). []) (λ p. refl) brought.pledges)) same

  module _ (counted : ℕ) where
    abbrev pub with_own_row : Listed
    with_own_row = with_rows (listed_as h counted) 0 (book_row b filled ∷ other_books h b k is)

    abbrev pub with_terms : Listed
    with_terms = with_rows with_own_row 1 (terms_listed b filled ++ with_own_row 1)

    filled_same : AreSame (listed_as changed counted) (beside (whole_pledges b brought.pledges) with_terms)
    filled_same = record {
      books = no_more _ _ (books_after h b k is filled);
      terms = no_more _ _ (rows_more h b k is filled terms_listed (terms_listed b filled)
          (ap (λ ts. placed_from (λ version t. number b ∷ number version ∷ terms_cells t) 1 ts ++ terms_listed b filled) (sym empty.terms)));
      pledges = joined_pledges pledge_listed;
      entries = joined_pledges entries_listed;
      secrets = joined_pledges secrets_listed;
      bookings = joined_pledges booking_listed;
      meta = no_more _ _ (IsPermutation-refl _);
      totals = joined_pledges totals_listed;
      extensions = joined_pledges extensions_listed;
    }

    pub filled_written : (db : Database) (added : ℕ) → counted ≡ rows h → added ≡ length brought.terms + sum_by pledge_row_count brought.pledges
        → ListsOurs db (beside (whole_pledges b brought.pledges) with_terms) → IsWrittenPart h (with_change h (ImportBook b key brought)) db added
    filled_written db added same many l = subst (λ g. IsWrittenPart h g db added) (sym is_changed) (record {
      lists = subst (ListsHost db changed) same (relisted db (listed_as changed counted) (beside (whole_pledges b brought.pledges) with_terms) filled_same l);
      grown = let sums = rows-with_book h b filled in
          let before : part book_row_count (get h.books b) ≡ 1 =
          ap (part book_row_count) is ∙ (λ i. 1 + length (empty.terms i) + sum_by pledge_row_count (empty.pledges i)) in
          omega (arith, sums, before, many);
    })

    pub filled_counted : {E : Type 0} (db : Database) (versions added : ℕ) (result : Result ℕ E) → counted ≡ rows h → versions ≡ length brought.terms
        → added ≡ sum_by pledge_row_count brought.pledges → IfOk result (λ n. n ≡ versions + added)
        → ListsOurs db (beside (whole_pledges b brought.pledges) with_terms) → IfOk result (IsWrittenPart h (with_change h (ImportBook b key brought)) db)
    filled_counted db versions added (Ok n) same terms pledges sum l = filled_written db n same (omega (arith, sum, terms, pledges)) l
    filled_counted db versions added (Err e) same terms pledges sum l = tt
