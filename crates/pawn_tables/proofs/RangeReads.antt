-- What the queries for the rows of a range of pledges show, where the tables stand for a host.
use Rattle.one_table.proofs.Orders.{by_columns, shown_few_by}
use Rattle.pawn_book.specs.Items.{booking_items, extension_items, item_number, secret_items}
use Rattle.pawn_book.specs.declared.items.RowItem.{RowItem}
use Rattle.pawn_tables.proofs.Basics.{Asks, around, ascending-filter, by_column, cond-false, few_of_table, filter-map}
use Rattle.pawn_tables.proofs.Basics.{filter_agree, map-append, map-map, nat_tests}
use Rattle.pawn_tables.proofs.Basics.{passes, shows_of, take-map, value_cmp-Int}
use Rattle.pawn_tables.proofs.BookReads.{above}
use Rattle.pawn_tables.proofs.ItemOrder.{IsBefore, IsBeforeBy, all_of_kind, all_rise, each_kind, is_within, item_place}
use Rattle.pawn_tables.proofs.Lent.{debts_of}
use Rattle.pawn_tables.proofs.PledgeReads.{ListsRows, bookings_list, entries_list, extensions_list, pledges_list}
use Rattle.pawn_tables.proofs.PledgeReads.{secrets_list}
use Rattle.pawn_tables.proofs.RowsUnderKey.{equals, less, of_one_book, rows_at, truth_of}
use Rattle.pawn_tables.specs.At.{is_above, is_at, is_upto}
use Rattle.pawn_tables.specs.Common.{BookValue, Booking, Each, Equal, Extension, Host, IsAscending, Issued, Less}
use Rattle.pawn_tables.specs.Common.{PledgeValue, Row, Shown, State, Table, Term, binary, column, columns_of, get}
use Rattle.pawn_tables.specs.Common.{Index, is_le, list_all, ordering_then, pledges_of, understood, value_cmp}
use Rattle.pawn_tables.specs.Kinds.{cells_of, item_cells, row_kind, kind_rows, range_text}
use Rattle.pawn_tables.specs.Ours.{with_indexes}
use Rattle.pawn_tables.specs.Pages.{most_page_rows}
use Rattle.pawn_tables.specs.Rows.{at_most_one, booking_cells, booking_listed, entries_listed, extension_cells}
use Rattle.pawn_tables.specs.Rows.{extensions_listed, number, placed_from, pledge_listed, secret_cells, secrets_listed}
use Rattle.pawn_tables.specs.Rows.{under}
use Rattle.pawn_tables.specs.StandsFor.{StandsFor, of_pledges}
use Rattle.pawn_tables.specs.declared.kinds.RowKind.{RowKind}
use Rattle.sqlite_sql.specs.Query.{key_cmp}
use Rattle.sqlite.specs.Term.{eval_all}
use Rattle.sqlite.proofs.Callers.{IsPlain}
use Rattle.sqlite_trees.proofs.ListLemmas.{all-filter, ascending-map}
use Rattle.sqlite_value.proofs.OrderLemmas.{then-Equal}
use Rattle.sqlite_value.specs.declared.keys.Key.{Key}
use Rattle.std.proofs.Common.{◌≡◌, ◌≢◌, ◌++◌, ◌==◌, ◌&&◌, ◌∙◌, ◌+◌, ◌<◌, ℕ, pos, List, [], ◌∷◌, map, filter, flat_map}
use Rattle.std.proofs.Common.{take, Bool, true, false, Option, Some, None, inl, inr, ap, arith, nat_le, refl, subst, sym}
use Rattle.std.proofs.Math.Bool.{and-true}
use Rattle.pawn_tables.proofs.ReadTexts as text

-- SQL's <= on numbers
upto : (m n : ℕ) → is_upto (number m) (number n) ≡ nat_le m n
unfolding binary
upto m n = truth_of _ ∙ ap is_le (value_cmp-Int (pos m) (pos n)) ∙ grind (arith, nat_tests)

same_number : (m n : ℕ) → m ≡ n → value_cmp (number m) (number n) ≡ Equal
same_number m n is = value_cmp-Int (pos m) (pos n) ∙ grind (arith, nat_tests, is)

-- ---- the rows of each table, as rows of pledges

abbrev pub item_row : ℕ → RowItem → Row
item_row c i = under c (item_number i) (item_cells i)

abbrev pub listing : RowKind → ℕ → PledgeValue → List Row
listing RowKind.Pledge = pledge_listed
listing RowKind.Secret = secrets_listed
listing RowKind.Entry = entries_listed
listing RowKind.Extension = extensions_listed
listing RowKind.Booking = booking_listed

secrets_are : (c n place : ℕ) (is : List Issued)
    → placed_from (λ place i. under c n (secret_cells place i)) place is ≡ map (item_row c) (secret_items n place is)
secrets_are c n place [] = refl
secrets_are c n place (i ∷ is) = ap (λ l. under c n (secret_cells place i) ∷ l) (secrets_are c n (place + 1) is)

extensions_are : (c n place : ℕ) (es : List Extension)
    → placed_from (λ place e. under c n (extension_cells place e)) place es ≡ map (item_row c) (extension_items n place es)
extensions_are c n place [] = refl
extensions_are c n place (e ∷ es) = ap (λ l. under c n (extension_cells place e) ∷ l) (extensions_are c n (place + 1) es)

booking_is : (c n : ℕ) (o : Option Booking) → at_most_one (λ k. under c n (booking_cells k)) o ≡ map (item_row c) (booking_items n o)
booking_is c n None = refl
booking_is c n (Some k) = refl

listed_as : (kind : RowKind) (c : ℕ) (p : PledgeValue) → listing kind c p ≡ map (item_row c) (kind_rows kind p)
listed_as RowKind.Pledge c p = refl
listed_as RowKind.Secret c p = secrets_are c p.agreement.number 1 p.secrets
listed_as RowKind.Entry c p = sym (map-map (item_row c) (RowItem.Entry p.agreement.number) p.entries)
listed_as RowKind.Extension c p = extensions_are c p.agreement.number 1 p.extensions
listed_as RowKind.Booking c p = booking_is c p.agreement.number p.standing.booking

all_listed : (kind : RowKind) (c : ℕ) (ps : List PledgeValue) → flat_map (listing kind c) ps ≡ map (item_row c) (all_of_kind kind ps)
all_listed kind c [] = refl
all_listed kind c (p ∷ ps) = (λ i. listed_as kind c p i ++ all_listed kind c ps i) ∙ sym (map-append (item_row c) (kind_rows kind p) (all_of_kind kind ps))

-- ---- what a query shows of them

abbrev pub cells_by : RowKind → Row → Row
cells_by RowKind.Pledge v =
    column v 2 ∷ column v 3 ∷ column v 4 ∷ column v 5 ∷ column v 6 ∷ column v 7 ∷ column v 8 ∷ column v 9 ∷ column v 10 ∷ column v 11 ∷ column v 12
    ∷ column v 13 ∷ column v 14 ∷ column v 15 ∷ column v 1 ∷ []
cells_by RowKind.Secret v = column v 2 ∷ column v 3 ∷ column v 4 ∷ column v 5 ∷ column v 1 ∷ []
cells_by RowKind.Entry v = column v 2 ∷ column v 3 ∷ column v 4 ∷ column v 5 ∷ column v 1 ∷ []
cells_by RowKind.Extension v = column v 2 ∷ column v 3 ∷ column v 4 ∷ column v 1 ∷ []
cells_by RowKind.Booking v = column v 2 ∷ column v 3 ∷ column v 4 ∷ column v 1 ∷ []

cells_are : (c : ℕ) (i : RowItem) → cells_by (row_kind i) (item_row c i) ≡ cells_of None i
cells_are c (RowItem.Pledge q) = refl
cells_are c (RowItem.Secret n place i) = refl
cells_are c (RowItem.Entry n e) = refl
cells_are c (RowItem.Extension n place e) = refl
cells_are c (RowItem.Booking n k) = refl

all_cells : (kind : RowKind) (c : ℕ) (is : List RowItem) → Each (λ i. row_kind i ≡ kind) is
    → map (cells_by kind) (map (item_row c) is) ≡ map (cells_of None) is
all_cells kind c [] all = refl
all_cells kind c (i ∷ is) all =
    (λ x. subst (λ k. cells_by k (item_row c i) ≡ cells_of None i) all.0 (cells_are c i) x ∷ all_cells kind c is all.1 x)

-- ---- the order in which a query shows them

abbrev pub order_by : RowKind → List (Term × Key)
order_by RowKind.Pledge = by_column 2
order_by RowKind.Secret = by_columns 2 3
order_by RowKind.Entry = by_columns 2 3
order_by RowKind.Extension = by_columns 2 3
order_by RowKind.Booking = by_column 2

abbrev pub keys_by : RowKind → Row → Row
keys_by RowKind.Pledge v = column v 1 ∷ []
keys_by RowKind.Secret v = column v 1 ∷ column v 2 ∷ []
keys_by RowKind.Entry v = column v 1 ∷ column v 2 ∷ []
keys_by RowKind.Extension v = column v 1 ∷ column v 2 ∷ []
keys_by RowKind.Booking v = column v 1 ∷ []

abbrev RisesBy : RowKind → Row → Row → Type 0
RisesBy kind v w = key_cmp 0 (map (λ (k : Term × Key). k.1) (order_by kind)) (keys_by kind v) (keys_by kind w) ≡ Less

-- the place of a row of a list follows its pledge's number
abbrev HasPlace : ℕ → RowItem → Type 0
HasPlace c i = column (item_row c i) 2 ≡ number (item_place i)

one_key : (c : ℕ) (i j : RowItem) → item_number i < item_number j → RisesBy RowKind.Pledge (item_row c i) (item_row c j)
one_key c i j lt = then-Equal _ ∙ less (item_number i) (item_number j) lt

two_keys : (c : ℕ) (i j : RowItem) → HasPlace c i → HasPlace c j → IsBefore i j → RisesBy RowKind.Secret (item_row c i) (item_row c j)
two_keys c i j at_i at_j (inl lt) = ap (λ o. ordering_then o (ordering_then (value_cmp (column (item_row c i) 2) (column (item_row c j) 2)) Equal))
    (less (item_number i) (item_number j) lt)
two_keys c i j at_i at_j (inr (same, lt)) = ap (λ o. ordering_then o (ordering_then (value_cmp (column (item_row c i) 2) (column (item_row c j) 2)) Equal))
    (same_number (item_number i) (item_number j) same) ∙ then-Equal _ ∙ (λ x. value_cmp (at_i x) (at_j x)) ∙ less (item_place i) (item_place j) lt

secret_place : (c : ℕ) (i : RowItem) → row_kind i ≡ RowKind.Secret → HasPlace c i
secret_place c (RowItem.Pledge q) kind = absurd (let e = kind in cc)
secret_place c (RowItem.Secret n place i) kind = refl
secret_place c (RowItem.Entry n e) kind = refl
secret_place c (RowItem.Extension n place e) kind = refl
secret_place c (RowItem.Booking n k) kind = absurd (let e = kind in cc)

entry_place : (c : ℕ) (i : RowItem) → row_kind i ≡ RowKind.Entry → HasPlace c i
entry_place c (RowItem.Pledge q) kind = absurd (let e = kind in cc)
entry_place c (RowItem.Secret n place i) kind = refl
entry_place c (RowItem.Entry n e) kind = refl
entry_place c (RowItem.Extension n place e) kind = refl
entry_place c (RowItem.Booking n k) kind = absurd (let e = kind in cc)

extension_place : (c : ℕ) (i : RowItem) → row_kind i ≡ RowKind.Extension → HasPlace c i
extension_place c (RowItem.Pledge q) kind = absurd (let e = kind in cc)
extension_place c (RowItem.Secret n place i) kind = refl
extension_place c (RowItem.Entry n e) kind = refl
extension_place c (RowItem.Extension n place e) kind = refl
extension_place c (RowItem.Booking n k) kind = absurd (let e = kind in cc)

rises_by : (kind : RowKind) (c : ℕ) (i j : RowItem) → row_kind i ≡ kind → row_kind j ≡ kind → IsBeforeBy kind i j → RisesBy kind (item_row c i) (item_row c j)
rises_by RowKind.Pledge c i j of_i of_j before = one_key c i j before
rises_by RowKind.Secret c i j of_i of_j before = two_keys c i j (secret_place c i of_i) (secret_place c j of_j) before
rises_by RowKind.Entry c i j of_i of_j before = two_keys c i j (entry_place c i of_i) (entry_place c j of_j) before
rises_by RowKind.Extension c i j of_i of_j before = two_keys c i j (extension_place c i of_i) (extension_place c j of_j) before
rises_by RowKind.Booking c i j of_i of_j before = one_key c i j before

all_rising : (kind : RowKind) (c : ℕ) (is : List RowItem) → Each (λ i. row_kind i ≡ kind) is → IsAscending (IsBeforeBy kind) is
    → IsAscending (λ i j. RisesBy kind (item_row c i) (item_row c j)) is
all_rising kind c [] all up = tt
all_rising kind c (i ∷ is) all up = (later is all.1 up.0, all_rising kind c is all.1 up.1) where
  later : (js : List RowItem) → Each (λ j. row_kind j ≡ kind) js → Each (IsBeforeBy kind i) js → Each (λ j. RisesBy kind (item_row c i) (item_row c j)) js
  later [] own before = tt
  later (j ∷ js) own before = (rises_by kind c i j all.0 own.0 before.0, later js own.1 before.1)

-- ---- the rows of a range

-- the rows of this kind of the pledges of a book with numbers above a and up to m
abbrev pub range_items : RowKind → ℕ → ℕ → Option BookValue → List RowItem
range_items kind a m book = filter (is_within a m) (all_of_kind kind (pledges_of book))

module _ (h : Host) (b a m : ℕ) where
  abbrev params : Row
  params = number b ∷ number a ∷ number m ∷ []

  abbrev in_range : Row → Bool
  in_range v = list_all (λ (x : Bool). x) (is_at (column v 0) (number b) ∷ is_above (column v 1) (number a) ∷ is_upto (column v 1) (number m) ∷ [])

  range_test : (c : ℕ) (i : RowItem) → in_range (item_row c i) ≡ ((c == b) && is_within a m i)
  range_test c i = λ x. equals c b x && (above (item_number i) a x && (and-true (is_upto (number (item_number i)) (number m)) ∙ upto (item_number i) m) x)

  none_apart : (c : ℕ) → c ≢ b → (is : List RowItem) → filter in_range (map (item_row c) is) ≡ []
  none_apart c apart [] = refl
  none_apart c apart (i ∷ is) = let other : (c == b) ≡ false = grind (arith, nat_tests, apart) in
      cond-false _ _ _ (range_test c i ∙ ap (λ x. x && is_within a m i) other) ∙ none_apart c apart is

  of_range : (kind : RowKind) → filter in_range (of_pledges h (listing kind)) ≡ map (item_row b) (range_items kind a m (get h.books b))
  of_range kind = of_one_book h b in_range (λ c k. flat_map (listing kind c) k.pledges)
      (λ c k apart. ap (filter in_range) (all_listed kind c k.pledges) ∙ none_apart c apart (all_of_kind kind k.pledges)) ∙ inside (get h.books b) where
        this : (b == b) ≡ true
        this = grind (arith, nat_tests)

        inside : (o : Option BookValue)
            → rows_at o (λ k. filter in_range (flat_map (listing kind b) k.pledges)) ≡ map (item_row b) (range_items kind a m o)
        inside None = refl
        inside (Some k) = ap (filter in_range) (all_listed kind b k.pledges) ∙ filter-map in_range (item_row b) (all_of_kind kind k.pledges)
            ∙ ap (map (item_row b)) (filter_agree (λ i. in_range (item_row b i)) (is_within a m)
            (λ i. range_test b i ∙ ap (λ x. x && is_within a m i) this) (all_of_kind kind k.pledges))

  module _ (old new : State) (st : StandsFor old.now h) where
    pub range_rises : (kind : RowKind) → IsAscending (IsBeforeBy kind) (range_items kind a m (get h.books b))
    range_rises kind = ascending-filter (IsBeforeBy kind) (is_within a m) _ (inside (get h.books b) refl) where
      inside : (o : Option BookValue) → get h.books b ≡ o → IsAscending (IsBeforeBy kind) (all_of_kind kind (pledges_of o))
      inside None is = tt
      inside (Some k) is = all_rise kind 1 k.pledges (st.ordered b k is).pledges (st.ordered b k is).entries

    pub range_kinds : (kind : RowKind) → Each (λ i. row_kind i ≡ kind) (range_items kind a m (get h.books b))
    range_kinds kind = all-filter (λ i. row_kind i ≡ kind) (is_within a m) _ (each_kind kind (pledges_of (get h.books b)))

    rows_rise : (kind : RowKind) → IsAscending (RisesBy kind) (filter in_range (of_pledges h (listing kind)))
    rows_rise kind = subst (IsAscending (RisesBy kind)) (sym (of_range kind)) (ascending-map (RisesBy kind) (item_row b) (range_items kind a m (get h.books b))
        (all_rising kind b (range_items kind a m (get h.books b)) (range_kinds kind) (range_rises kind)))

    module _ (rows : List Row) (kind : RowKind) (t : Table) (list : ListsRows old.now h t (listing kind)) (shows : List Term)
        (passes_is : (r : Row) → passes text.range_tests params r ≡ in_range (columns_of t r))
        (shows_is : (r : Row) → shows_of shows params r ≡ cells_by kind (columns_of t r))
        (keys_are : (r : Row) → eval_all (map (λ (k : Term × Key). k.0) (order_by kind)) (around params r) ≡ keys_by kind (columns_of t r))
        (names : List (List ℕ))
        (asks : Asks (with_indexes st.schema.more) (range_text kind) (few_of_table most_page_rows t.tree text.range_tests shows (order_by kind)) names) where
      one_range : Shown (range_text kind) params old new rows → rows ≡ map (cells_of None) (take most_page_rows (range_items kind a m (get h.books b)))
      one_range shown =
          shown_few_by (with_indexes st.schema.more) t.tree list.is_tree t text.range_tests shows params in_range (cells_by kind) passes_is shows_is
          (order_by kind) (keys_by kind) keys_are most_page_rows (range_text kind) names asks old new (of_pledges h (listing kind)) rows st.schema.is list.holds
          (rows_rise kind) shown ∙ ap (λ vs. take most_page_rows (map (cells_by kind) vs)) (of_range kind)
          ∙ ap (take most_page_rows) (all_cells kind b (range_items kind a m (get h.books b)) (range_kinds kind))
          ∙ take-map (cells_of None) most_page_rows (range_items kind a m (get h.books b))

    pub range_shown : (rows : List Row) (kind : RowKind) → Shown (range_text kind) params old new rows
        → rows ≡ map (cells_of None) (take most_page_rows (range_items kind a m (get h.books b)))
    range_shown rows RowKind.Pledge = one_range rows RowKind.Pledge _ (pledges_list _ h (debts_of _ h st)) text.pledge_range_shows (λ r. refl) (λ r. refl)
        (λ r. refl) _ ((text.texts st.schema.more).pledges_range_is)
    range_shown rows RowKind.Secret = one_range rows RowKind.Secret _ (secrets_list _ h st) text.four_range_shows (λ r. refl) (λ r. refl)
        (λ r. refl) _ ((text.texts st.schema.more).secrets_range_is)
    range_shown rows RowKind.Entry = one_range rows RowKind.Entry _ (entries_list _ h (debts_of _ h st)) text.four_range_shows (λ r. refl) (λ r. refl)
        (λ r. refl) _ ((text.texts st.schema.more).entries_range_is)
    range_shown rows RowKind.Extension = one_range rows RowKind.Extension _ (extensions_list _ h st) text.three_range_shows (λ r. refl) (λ r. refl)
        (λ r. refl) _ ((text.texts st.schema.more).extensions_range_is)
    range_shown rows RowKind.Booking = one_range rows RowKind.Booking _ (bookings_list _ h st) text.three_range_shows (λ r. refl) (λ r. refl)
        (λ r. refl) _ ((text.texts st.schema.more).bookings_range_is)

pub range_plain : (kind : RowKind) (more : List Index) → IsPlain (understood (with_indexes more) (range_text kind))
range_plain RowKind.Pledge more = (text.texts more).pledges_range_is.2
range_plain RowKind.Secret more = (text.texts more).secrets_range_is.2
range_plain RowKind.Entry more = (text.texts more).entries_range_is.2
range_plain RowKind.Extension more = (text.texts more).extensions_range_is.2
range_plain RowKind.Booking more = (text.texts more).bookings_range_is.2
