-- What the queries of a pledge show, where the tables stand for a host.
use Rattle.one_table.proofs.Found.{shown_few, last_of, shown_in_order, shown_last, shown_listed}
use Rattle.pawn_tables.proofs.Basics.{filter_all, filter_none, overlay, each_at, Asks, ascending-filter, few_of_table}
use Rattle.pawn_tables.proofs.Basics.{nat_tests, by_column, by_column_down, filter_agree, first_of_table}
use Rattle.pawn_tables.proofs.Basics.{length_permutation, map-map, nil_from_length, over_table, passes, shows_of}
use Rattle.pawn_tables.proofs.Lent.{debts_of}
use Rattle.pawn_tables.proofs.PlacedRows.{filter_both, has_place, placed_all, placed_shown, regroup}
use Rattle.pawn_tables.proofs.RowsUnderKey.{AreUnder, Rise, entries_rise, equals, number_from, of_one_book}
use Rattle.pawn_tables.proofs.RowsUnderKey.{of_one_pledge, placed_rise, rows_at}
use Rattle.pawn_tables.specs.At.{is_at, at_pledge}
use Rattle.pawn_tables.specs.Common.{get, list_all, Less, Row, column, value_cmp, Shown, State, Table, Tables, Term}
use Rattle.pawn_tables.specs.Common.{Trees, Value, Rates, PledgeValue, Each, Booking, BookValue, pledge_in, Host}
use Rattle.pawn_tables.specs.Common.{entries_of, extensions_of, secrets_of, terms_of, IsUnder, terms_at, Holds}
use Rattle.pawn_tables.specs.Common.{columns_of}
use Rattle.pawn_tables.specs.Entries.{RiseFrom}
use Rattle.pawn_tables.specs.Ours.{HasOurTables, with_indexes}
use Rattle.pawn_tables.specs.Pages.{most_page_rows}
use Rattle.pawn_tables.specs.Places.{at_place}
use Rattle.pawn_tables.specs.PledgeRows.{booking_of, totals_in}
use Rattle.pawn_tables.specs.Rows.{at_most_one, booking_cells, booking_listed, credit_cells, entries_listed}
use Rattle.pawn_tables.specs.Rows.{entry_cells, extension_cells, extensions_listed, number, placed_from, pledge_cells}
use Rattle.pawn_tables.specs.Rows.{pledge_listed, secret_cells, secrets_listed, terms_cells, terms_listed, totals_cells}
use Rattle.pawn_tables.specs.Rows.{totals_listed, under}
use Rattle.pawn_tables.specs.Schema.{bookings, bookings_tree, entries_tree, extensions, extensions_tree, pledges}
use Rattle.pawn_tables.specs.Schema.{pledges_tree, secrets, secrets_tree, terms, terms_tree, totals, totals_tree}
use Rattle.pawn_tables.specs.Schema.{entries}
use Rattle.pawn_tables.specs.StandsFor.{AreBooksOrdered, ListDebts, StandsFor, of_books, of_pledges}
use Rattle.sqlite.proofs.Callers.{one_permutation}
use Rattle.std.proofs.Common.{◌≡◌, ℕ, zero, suc, ◌+◌, ◌≤◌, List, [], ◌∷◌, map, filter, length, take, Bool, ◌&&◌, Option}
use Rattle.std.proofs.Common.{Some, None, refl, sym, ap, subst, ◌∙◌, arith, IsPermutation, option_map}
use Rattle.std.proofs.Math.Bool.{and-true}
use Rattle.pawn_tables.proofs.ReadTexts as text

-- ---- what stands of the pledge at a number

-- what holds of each pledge of each book holds of this one
pub holds_in : (h : Host) (P : PledgeValue → Type 0) → ((c : ℕ) (k : BookValue) → get h.books c ≡ Some k → Each P k.pledges) → (b n : ℕ) (p : PledgeValue)
    → pledge_in (get h.books b) n ≡ Some p → P p
holds_in h P all b n p is = inside (get h.books b) refl is where
  inside : (o : Option BookValue) → get h.books b ≡ o → pledge_in o n ≡ Some p → P p
  inside None e is = absurd (let x = is in cc)
  inside (Some k) e is = each_at P 1 k.pledges n p (all b k e) is

pub number_in : (h : Host) (b n : ℕ) (p : PledgeValue) → AreBooksOrdered h → pledge_in (get h.books b) n ≡ Some p → p.agreement.number ≡ n
number_in h b n p ordered is = inside (get h.books b) refl is where
  inside : (o : Option BookValue) → get h.books b ≡ o → pledge_in o n ≡ Some p → p.agreement.number ≡ n
  inside None e is = absurd (let x = is in cc)
  inside (Some k) e is = number_from n 1 k.pledges (ordered b k e).pledges p is

-- the terms of a pledge are those of its version
pub under_in : (h : Host) (b n : ℕ) (p : PledgeValue) → AreBooksOrdered h → pledge_in (get h.books b) n ≡ Some p
    → terms_at (terms_of (get h.books b)) p.agreement.version ≡ Some p.agreement.terms
under_in h b n p ordered is = inside (get h.books b) refl is where
  inside : (o : Option BookValue) → get h.books b ≡ o → pledge_in o n ≡ Some p → terms_at (terms_of o) p.agreement.version ≡ Some p.agreement.terms
  inside None e is = absurd (let x = is in cc)
  inside (Some k) e is = each_at (IsUnder k.terms) 1 k.pledges n p (ordered b k e).under is

-- ---- each row of a pledge stands under its number

pub under_map : {A : Type 0} (b n : ℕ) (f : A → Row) (xs : List A) → AreUnder b n (map (λ x. under b n (f x)) xs)
under_map b n f [] = tt
under_map b n f (x ∷ xs) = ((refl, refl), under_map b n f xs)

pub under_placed : {A : Type 0} (b n : ℕ) (f : ℕ → A → Row) (at : ℕ) (xs : List A) → AreUnder b n (placed_from (λ place x. under b n (f place x)) at xs)
under_placed b n f at [] = tt
under_placed b n f at (x ∷ xs) = ((refl, refl), under_placed b n f (at + 1) xs)

pub under_booked : (b n : ℕ) (o : Option Booking) → AreUnder b n (at_most_one (λ k. under b n (booking_cells k)) o)
under_booked b n None = tt
under_booked b n (Some k) = ((refl, refl), tt)

-- ---- rows in order

pub rises_at : (o : Option PledgeValue) (f : PledgeValue → List Row) (key : Row → Value) → ((p : PledgeValue) → o ≡ Some p → Rise key (f p))
    → Rise key (rows_at o f)
rises_at None f key up = tt
rises_at (Some p) f key up = up p refl

pub entries_up : (h : Host) (b n : ℕ) → AreBooksOrdered h → Rise (λ v. column v 2) (rows_at (pledge_in (get h.books b) n) (entries_listed b))
entries_up h b n ordered = rises_at _ (entries_listed b) (λ v. column v 2) (λ p is. entries_rise (λ e. under b p.agreement.number (entry_cells e))
    (λ v. column v 2) (λ e. refl) 0 p.entries (holds_in h (λ (q : PledgeValue). RiseFrom 0 q.entries) (λ c k at. (ordered c k at).entries) b n p is))

pub secrets_up : (b : ℕ) (o : Option PledgeValue) → Rise (λ v. column v 2) (rows_at o (secrets_listed b))
secrets_up b o = rises_at o (secrets_listed b) (λ v. column v 2)
    (λ p is. placed_rise (λ place i. under b p.agreement.number (secret_cells place i)) (λ v. column v 2) (λ place i. refl) 1 p.secrets)

pub extensions_up : (b : ℕ) (o : Option PledgeValue) → Rise (λ v. column v 2) (rows_at o (extensions_listed b))
extensions_up b o = rises_at o (extensions_listed b) (λ v. column v 2)
    (λ p is. placed_rise (λ place e. under b p.agreement.number (extension_cells place e)) (λ v. column v 2) (λ place e. refl) 1 p.extensions)

-- ---- what its rows show after its number

abbrev pub three : Row → Row
three v = column v 2 ∷ column v 3 ∷ column v 4 ∷ []

abbrev pub four : Row → Row
four v = column v 2 ∷ column v 3 ∷ column v 4 ∷ column v 5 ∷ []

abbrev pub fourteen : Row → Row
fourteen v = column v 2 ∷ column v 3 ∷ column v 4 ∷ column v 5 ∷ column v 6 ∷ column v 7 ∷ column v 8 ∷ column v 9 ∷ column v 10 ∷ column v 11 ∷ column v 12
    ∷ column v 13 ∷ column v 14 ∷ column v 15 ∷ []

pub placed_cells : {A : Type 0} (b n : ℕ) (f : ℕ → A → Row) (cells : Row → Row) → ((place : ℕ) (x : A) → cells (under b n (f place x)) ≡ f place x)
    → (at : ℕ) (xs : List A) → map cells (placed_from (λ place x. under b n (f place x)) at xs) ≡ placed_from f at xs
placed_cells b n f cells is at [] = refl
placed_cells b n f cells is at (x ∷ xs) = λ i. is at x i ∷ placed_cells b n f cells is (at + 1) xs i

pub entries_told : (b : ℕ) (o : Option PledgeValue) → map four (rows_at o (entries_listed b)) ≡ map entry_cells (entries_of o)
entries_told b None = refl
entries_told b (Some p) = map-map _ (λ e. under b p.agreement.number (entry_cells e)) p.entries

pub secrets_told : (b : ℕ) (o : Option PledgeValue) → map four (rows_at o (secrets_listed b)) ≡ placed_from secret_cells 1 (secrets_of o)
secrets_told b None = refl
secrets_told b (Some p) = placed_cells b p.agreement.number secret_cells four (λ place i. refl) 1 p.secrets

pub extensions_told : (b : ℕ) (o : Option PledgeValue) → map three (rows_at o (extensions_listed b)) ≡ placed_from extension_cells 1 (extensions_of o)
extensions_told b None = refl
extensions_told b (Some p) = placed_cells b p.agreement.number extension_cells three (λ place e. refl) 1 p.extensions

pub booking_told : (b : ℕ) (o : Option PledgeValue) → map three (rows_at o (booking_listed b)) ≡ at_most_one booking_cells (booking_of o)
booking_told b None = refl
booking_told b (Some p) = in_book p.standing.booking where
  in_book : (k : Option Booking) → map three (at_most_one (λ k. under b p.agreement.number (booking_cells k)) k) ≡ at_most_one booking_cells k
  in_book None = refl
  in_book (Some k) = refl

-- one row of each pledge
pub one_told : (f : ℕ → PledgeValue → Row) (cells : Row → Row) (told : PledgeValue → Row) (b : ℕ) → ((p : PledgeValue) → cells (f b p) ≡ told p)
    → (o : Option PledgeValue) → map cells (rows_at o (λ p. f b p ∷ [])) ≡ at_most_one told o
one_told f cells told b is None = refl
one_told f cells told b is (Some p) = ap (λ r. r ∷ []) (is p)

-- where one row at most is listed, the rows shown are those
pub one_listed : (rows xs : List Row) → length xs ≤ 1 → IsPermutation xs rows → rows ≡ xs
one_listed rows [] few same = nil_from_length rows (length_permutation [] rows same)
one_listed rows (x ∷ []) few same = one_permutation x rows same
one_listed rows (x ∷ y ∷ xs) few same = absurd (omega (arith, few))

pub few_of : {A : Type 0} (f : A → Row) (o : Option A) → length (at_most_one f o) ≤ 1
few_of f None = omega arith
few_of f (Some x) = omega arith

pub one_mapped : {A B : Type 0} (f : A → B) (g : B → Row) (o : Option A) → at_most_one (λ x. g (f x)) o ≡ at_most_one g (option_map f o)
one_mapped f g None = refl
one_mapped f g (Some x) = refl

-- ---- the tables that list rows of pledges

pub record ListsRows (db : Tables) (h : Host) (t : Table) (f : ℕ → PledgeValue → List Row) : Type 0 where
  pub holds : Holds db.trees t.tree t (of_pledges h f)
  pub ordered : AreBooksOrdered h
  pub under' : (m : ℕ) (p : PledgeValue) → AreUnder m p.agreement.number (f m p)
  pub is_tree : (trees : Trees) → overlay trees [] t.tree ≡ trees t.tree
  pub of_pledge : (b n : ℕ) (r : Row) → passes text.of_pledge (number b ∷ number n ∷ []) r ≡ at_pledge b n (columns_of t r)
  pub third : (r : Row) → column r 3 ≡ column (columns_of t r) 2

pub pledges_list : (db : Tables) (h : Host) → ListDebts db h → ListsRows db h (record pledges { tree = pledges_tree }) pledge_listed
pledges_list db h st =
    record { holds = st.pledges; ordered = st.ordered; under' = λ m p. ((refl, refl), tt); is_tree = λ _. refl; of_pledge = λ b n r. refl; third = λ r. refl }

pub entries_list : (db : Tables) (h : Host) → ListDebts db h → ListsRows db h (record entries { tree = entries_tree }) entries_listed
entries_list db h st = record {
  holds = st.entries;
  ordered = st.ordered;
  under' = λ m p. under_map m p.agreement.number entry_cells p.entries;
  is_tree = λ _. refl;
  of_pledge = λ b n r. refl;
  third = λ r. refl;
}

module _ (db : Tables) (h : Host) (st : StandsFor db h) where
  pub secrets_list : ListsRows db h (record secrets { tree = secrets_tree }) secrets_listed
  secrets_list = record {
    holds = st.secrets;
    ordered = st.ordered;
    under' = λ m p. under_placed m p.agreement.number secret_cells 1 p.secrets;
    is_tree = λ _. refl;
    of_pledge = λ b n r. refl;
    third = λ r. refl;
  }

  pub extensions_list : ListsRows db h (record extensions { tree = extensions_tree }) extensions_listed
  extensions_list = record {
    holds = st.extensions;
    ordered = st.ordered;
    under' = λ m p. under_placed m p.agreement.number extension_cells 1 p.extensions;
    is_tree = λ _. refl;
    of_pledge = λ b n r. refl;
    third = λ r. refl;
  }

  pub bookings_list : ListsRows db h (record bookings { tree = bookings_tree }) booking_listed
  bookings_list = record {
    holds = st.bookings;
    ordered = st.ordered;
    under' = λ m p. under_booked m p.agreement.number p.standing.booking;
    is_tree = λ _. refl;
    of_pledge = λ b n r. refl;
    third = λ r. refl;
  }

  pub totals_list : ListsRows db h (record totals { tree = totals_tree }) totals_listed
  totals_list =
      record { holds = st.totals; ordered = st.ordered; under' = λ m p. ((refl, refl), tt); is_tree = λ _. refl; of_pledge = λ b n r. refl; third = λ r. refl }

-- what a query of the rows of one pledge shows
module _ (old new : State) (ours : HasOurTables old.now.schema) (h : Host) (t : Table) (f : ℕ → PledgeValue → List Row) (list : ListsRows old.now h t f)
    (b n : ℕ) (shows : List Term) (cells : Row → Row)
    (shows_is : (r : Row) → shows_of shows (number b ∷ number n ∷ []) r ≡ cells (columns_of t r)) (sql : List ℕ) (names : List (List ℕ)) (rows : List Row) where
  pub of_one : filter (at_pledge b n) (of_pledges h f) ≡ rows_at (pledge_in (get h.books b) n) (f b)
  of_one = of_one_pledge h b n f list.ordered list.under'

  -- of which there is one at most
  pub alone_shown : {A : Type 0} (told : A → Row) (part : Option PledgeValue → Option A) → ((o : Option PledgeValue)
      → map cells (rows_at o (f b)) ≡ at_most_one told (part o)) → Asks (with_indexes ours.more) sql (over_table t.tree text.of_pledge shows []) names
      → Shown sql (number b ∷ number n ∷ []) old new rows → rows ≡ at_most_one told (part (pledge_in (get h.books b) n))
  alone_shown told part states asks shown = one_listed rows _ (few_of told (part (pledge_in (get h.books b) n))) (subst (λ xs. IsPermutation xs rows)
      (ap (map cells) of_one ∙ states (pledge_in (get h.books b) n)) (shown_listed (with_indexes ours.more) t.tree list.is_tree t text.of_pledge shows
      (number b ∷ number n ∷ []) (at_pledge b n) cells (list.of_pledge b n) shows_is sql names [] asks old new (of_pledges h f) rows ours.is list.holds shown))

  -- which rise in the column after the number
  module _ (up : Rise (λ v. column v 2) (rows_at (pledge_in (get h.books b) n) (f b))) where
    up_here : Rise (λ v. column v 2) (filter (at_pledge b n) (of_pledges h f))
    up_here = subst (Rise (λ v. column v 2)) (sym of_one) up

    pub in_order_shown : Asks (with_indexes ours.more) sql (over_table t.tree text.of_pledge shows (by_column 3)) names
        → Shown sql (number b ∷ number n ∷ []) old new rows → rows ≡ map cells (rows_at (pledge_in (get h.books b) n) (f b))
    in_order_shown asks shown =
        shown_in_order (with_indexes ours.more) t.tree list.is_tree t text.of_pledge shows (number b ∷ number n ∷ []) (at_pledge b n) cells (list.of_pledge b n)
        shows_is 3 (λ v. column v 2) list.third sql names asks old new (of_pledges h f) rows ours.is list.holds up_here shown ∙ ap (map cells) of_one

    pub last_shown : Asks (with_indexes ours.more) sql (first_of_table t.tree text.of_pledge shows (by_column_down 3)) names
        → Shown sql (number b ∷ number n ∷ []) old new rows → rows ≡ map cells (last_of (rows_at (pledge_in (get h.books b) n) (f b)))
    last_shown asks shown = shown_last (with_indexes ours.more) t.tree list.is_tree t text.of_pledge shows (number b ∷ number n ∷ []) (at_pledge b n) cells
        (list.of_pledge b n) shows_is 3 (λ v. column v 2) list.third sql names asks old new (of_pledges h f) rows ours.is list.holds up_here shown
        ∙ ap (λ xs. map cells (last_of xs)) of_one

-- what a query of those of them shows that pass a further test
module _ (old new : State) (ours : HasOurTables old.now.schema) (h : Host) (t : Table) (f : ℕ → PledgeValue → List Row) (list : ListsRows old.now h t f)
    (b n : ℕ) (test : Value → Bool) (tests shows : List Term) (params : Row) (cells : Row → Row) (passes_is : (r : Row) → passes tests params r ≡ list_all
    (λ (x : Bool). x) (is_at (column (columns_of t r) 0) (number b) ∷ is_at (column (columns_of t r) 1) (number n) ∷ test (column (columns_of t r) 2) ∷ []))
    (shows_is : (r : Row) → shows_of shows params r ≡ cells (columns_of t r)) (sql : List ℕ) (names : List (List ℕ)) (rows : List Row) where
  abbrev at_third : Row → Bool
  at_third v = list_all (λ (x : Bool). x) (is_at (column v 0) (number b) ∷ is_at (column v 1) (number n) ∷ test (column v 2) ∷ [])

  abbrev third : Row → Bool
  third v = test (column v 2)

  passing : filter at_third (of_pledges h f) ≡ filter third (rows_at (pledge_in (get h.books b) n) (f b))
  passing = filter_agree at_third (λ v. at_pledge b n v && third v) (λ v. regroup (is_at (column v 0) (number b)) (is_at (column v 1) (number n)) (third v))
      (of_pledges h f) ∙ sym (filter_both (at_pledge b n) third (of_pledges h f)) ∙ ap (filter third) (of_one_pledge h b n f list.ordered list.under')

  -- one at most
  pub one_shown : {A : Type 0} (told : A → Row) (o : Option A) → map cells (filter third (rows_at (pledge_in (get h.books b) n) (f b))) ≡ at_most_one told o
      → Asks (with_indexes ours.more) sql (over_table t.tree tests shows []) names → Shown sql params old new rows → rows ≡ at_most_one told o
  one_shown told o states asks shown =
      one_listed rows _ (few_of told o) (subst (λ xs. IsPermutation xs rows) (ap (map cells) passing ∙ states)
      (shown_listed (with_indexes ours.more) t.tree list.is_tree t tests shows params at_third cells passes_is shows_is sql names [] asks old new
      (of_pledges h f) rows ours.is list.holds shown))

  -- a page of them, where they rise
  pub page_shown : Rise (λ v. column v 2) (rows_at (pledge_in (get h.books b) n) (f b))
      → Asks (with_indexes ours.more) sql (few_of_table most_page_rows t.tree tests shows (by_column 3)) names
      → Shown sql params old new rows → rows ≡ take most_page_rows (map cells (filter third (rows_at (pledge_in (get h.books b) n) (f b))))
  page_shown up asks shown =
      let rises = subst (Rise (λ v. column v 2)) (sym passing) (ascending-filter (λ v w. value_cmp (column v 2) (column w 2) ≡ Less) third _ up) in
      shown_few (with_indexes ours.more) t.tree list.is_tree t tests shows params at_third cells passes_is shows_is 3 (λ v. column v 2) list.third
      most_page_rows sql names asks old new (of_pledges h f) rows ours.is list.holds rises shown ∙ ap (λ xs. take most_page_rows (map cells xs)) passing

module _ (old new : State) (h : Host) (b n : ℕ) (rows : List Row) (st : ListDebts old.now h) where
  pub entries_shown : Shown text.READ_ENTRIES.now (number b ∷ number n ∷ []) old new rows → rows ≡ map entry_cells (entries_of (pledge_in (get h.books b) n))
  entries_shown shown = in_order_shown old new st.schema h _ _ (entries_list _ h st) b n text.four_shown four (λ _. refl) text.READ_ENTRIES.now _ rows
      (entries_up h b n st.ordered) ((text.texts st.schema.more).entries_is) shown ∙ entries_told b _

  pub credit_shown : Shown text.READ_CREDIT.now (number b ∷ number n ∷ []) old new rows → rows ≡ at_most_one credit_cells (pledge_in (get h.books b) n)
  credit_shown = let cells : Row → Row = λ v. column v 4 ∷ column v 5 ∷ column v 6 ∷ column v 7 ∷ column v 9 ∷ [] in
      alone_shown old new st.schema h _ _ (pledges_list _ h st) b n text.credit_shows cells (λ _. refl) text.READ_CREDIT.now _ rows credit_cells (λ o. o)
      (one_told (λ m p. under m p.agreement.number (pledge_cells p)) cells credit_cells b (λ p. refl)) ((text.texts st.schema.more).credit_is)

module _ (old new : State) (h : Host) (b n : ℕ) (rows : List Row) (st : StandsFor old.now h) where
  abbrev params : Row
  params = number b ∷ number n ∷ []

  abbrev found : Option PledgeValue
  found = pledge_in (get h.books b) n

  pub secrets_shown : Shown text.READ_SECRETS.now params old new rows → rows ≡ placed_from secret_cells 1 (secrets_of found)
  secrets_shown shown = in_order_shown old new st.schema h _ _ (secrets_list _ h st) b n text.four_shown four (λ _. refl) text.READ_SECRETS.now _ rows
      (secrets_up b found) ((text.texts st.schema.more).secrets_is) shown ∙ secrets_told b found

  pub extensions_shown : Shown text.READ_EXTENSIONS.now params old new rows → rows ≡ placed_from extension_cells 1 (extensions_of found)
  extensions_shown shown = in_order_shown old new st.schema h _ _ (extensions_list _ h st) b n text.three_shown three
      (λ _. refl) text.READ_EXTENSIONS.now _ rows (extensions_up b found) ((text.texts st.schema.more).extensions_is) shown ∙ extensions_told b found

  pub booking_shown : Shown text.READ_BOOKING.now params old new rows → rows ≡ at_most_one booking_cells (booking_of found)
  booking_shown = alone_shown old new st.schema h _ _ (bookings_list _ h st) b n text.three_shown three
      (λ _. refl) text.READ_BOOKING.now _ rows booking_cells booking_of (booking_told b) ((text.texts st.schema.more).booking_is)

  pub totals_shown : Shown text.READ_TOTALS.now params old new rows → rows ≡ at_most_one totals_cells (totals_in found)
  totals_shown = alone_shown old new st.schema h _ _ (totals_list _ h st) b n text.three_shown three
      (λ _. refl) text.READ_TOTALS.now _ rows totals_cells totals_in told ((text.texts st.schema.more).totals_is)
    where
      told : (o : Option PledgeValue) → map three (rows_at o (totals_listed b)) ≡ at_most_one totals_cells (totals_in o)
      told None = refl
      told (Some p) = refl

  pub pledge_shown : Shown text.READ_PLEDGE.now params old new rows → rows ≡ at_most_one pledge_cells found
  pledge_shown = alone_shown old new st.schema h _ _ (pledges_list _ h (debts_of _ h st)) b n text.pledge_shows fourteen
      (λ _. refl) text.READ_PLEDGE.now _ rows pledge_cells (λ o. o)
      (one_told (λ m p. under m p.agreement.number (pledge_cells p)) fourteen pledge_cells b (λ p. refl)) ((text.texts st.schema.more).pledge_is)

-- ---- the terms of a version

pub one_version : (h : Host) (b v : ℕ)
    → map three (filter (at_pledge b v) (of_books h terms_listed)) ≡ at_most_one terms_cells (terms_at (terms_of (get h.books b)) v)
one_version h b v =
    ap (map three) (filter_agree (at_pledge b v) (λ r. own r && has_place 1 v r) (λ r. ap (λ c. own r && c) (and-true _)) (of_books h terms_listed)
    ∙ sym (filter_both own (has_place 1 v) (of_books h terms_listed)) ∙ ap (filter (has_place 1 v)) (of_one_book h b own terms_listed
    (λ m k apart. filter_none own _ (placed_all _ (row m) (λ at t. equals m b ∙ grind (arith, nat_tests, apart)) 1 k.terms)))) ∙ inside (get h.books b)
  where
    own : Row → Bool
    own r = is_at (column r 0) (number b)

    row : ℕ → ℕ → Rates → Row
    row m version t = number m ∷ number version ∷ terms_cells t

    at : (ts : List Rates) (w : ℕ) → at_place ts w ≡ terms_at ts w
    at ts zero = refl
    at ts (suc n) = refl

    none : (w : ℕ) → [] ≡ at_most_one terms_cells (terms_at [] w)
    none zero = refl
    none (suc n) = refl

    inside : (o : Option BookValue)
        → map three (filter (has_place 1 v) (rows_at o (λ k. filter own (terms_listed b k)))) ≡ at_most_one terms_cells (terms_at (terms_of o) v)
    inside None = none v
    inside (Some k) =
        ap (λ rs. map three (filter (has_place 1 v) rs)) (filter_all own _ (placed_all _ (row b) (λ at t. equals b b ∙ grind (arith, nat_tests)) 1 k.terms))
        ∙ placed_shown 1 (row b) (λ at t. refl) (λ at t. terms_cells t) three (λ at t. refl) v k.terms ∙ ap (at_most_one terms_cells) (at k.terms v)

pub terms_shown : (old new : State) (h : Host) (b v : ℕ) (rows : List Row) → ListDebts old.now h
    → Shown text.READ_TERMS.now (number b ∷ number v ∷ []) old new rows → rows ≡ at_most_one terms_cells (terms_at (terms_of (get h.books b)) v)
terms_shown old new h b v rows st shown = let t : Table = record terms { tree = terms_tree } in
    one_listed rows _ (few_of terms_cells (terms_at (terms_of (get h.books b)) v)) (subst (λ xs. IsPermutation xs rows) (one_version h b v)
    (shown_listed (with_indexes st.schema.more) terms_tree (λ _. refl) t text.of_pledge text.three_shown (number b ∷ number v ∷ []) (at_pledge b v) three
    (λ _. refl) (λ _. refl) text.READ_TERMS.now _ [] ((text.texts st.schema.more).terms_is) old new (of_books h terms_listed) rows st.schema.is st.terms shown))
