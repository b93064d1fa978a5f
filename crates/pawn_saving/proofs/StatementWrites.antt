-- What the statements of a change write.
pub use Rattle.pawn_tables.proofs.Lent.{on_ran}
pub use Rattle.sqlite.specs.Values.{bound_value}
use Rattle.one_table.proofs.Upsertion.{upserted, Splits}
use Rattle.pawn_debt.specs.Due.{credit_of}
use Rattle.pawn_saving.proofs.Basics.{IsPlace, Puts, cast_int, cast_null, cast_whole, plainly, equals}
use Rattle.pawn_saving.proofs.Differing.{differ, all_equal, same_number}
use Rattle.pawn_saving.proofs.OurTables.{joins_schema, meets_same, row_joins, row_set_where, under_same}
use Rattle.pawn_saving.proofs.Places.{terms_place, entries_place, pledges_place, secrets_place, bookings_place}
use Rattle.pawn_saving.proofs.Places.{totals_place, extensions_place}
use Rattle.pawn_saving.specs.Common.{cast, cast_row, Chosen, Integer, value_rows, with_rowid, with_rows, AreLoose}
use Rattle.pawn_saving.specs.Common.{ListsOurs}
use Rattle.pawn_saving.specs.RowWrites.{IsOnly}
use Rattle.pawn_tables.proofs.Basics.{nat_tests}
use Rattle.pawn_tables.proofs.PlacedRows.{regroup}
use Rattle.pawn_tables.specs.At.{at_pledge, is_at}
use Rattle.pawn_tables.specs.Common.{list_all, Index, Row, Term, column, Executes, State, Table, Value, Blob, Int, Null}
use Rattle.pawn_tables.specs.Common.{Text, Rates, Entry, Totals, Booking, Extension, Issued, Listed, PledgeValue}
use Rattle.pawn_tables.specs.Common.{columns_of, end_of}
use Rattle.pawn_tables.specs.Ours.{with_indexes}
use Rattle.pawn_tables.specs.Rows.{at_most_one, booking_cells, closed_amount, closed_day, closed_number, entry_cells}
use Rattle.pawn_tables.specs.Rows.{extension_cells, flag_number, issue_number, kind_number, number, or_null}
use Rattle.pawn_tables.specs.Rows.{pledge_cells, secret_cells, sort_number, state_number, terms_cells, totals_cells}
use Rattle.pawn_tables.specs.Rows.{under, word}
use Rattle.pawn_tables.specs.Schema.{terms, pledges, secrets, bookings, totals, extensions, bookings_tree, entries_tree}
use Rattle.pawn_tables.specs.Schema.{extensions_tree, pledges_tree, secrets_tree, terms_tree, totals_tree, entries}
use Rattle.sqlite_rules.specs.Keys.{conflicts}
use Rattle.sqlite_value.specs.Keys.{first_key}
use Rattle.std.proofs.Common.{◌≡◌, ◌/◌, inl, inr, ℕ, ℤ, pos, List, [], ◌∷◌, ◌++◌, length, Bool, true, false, ◌&&◌, ◌||◌}
use Rattle.std.proofs.Common.{◌==◌, Option, Some, None, Ok, ap, refl, subst, arith, ◌∙◌, IsPermutation, filter}
use Rattle.std.proofs.Common.{option_map}
use Rattle.pawn_saving.proofs.WriteTexts as text

-- a row of the pledge passes the test
pub own_row : (b n : ℕ) (cells : Row) → at_pledge b n (under b n cells) ≡ true
own_row b n cells = let x : (b == b) ≡ true = grind (arith, nat_tests) in let y : (n == n) ≡ true = grind (arith, nat_tests) in
    (λ i. equals b b i && (equals n n i && true)) ∙ rw (x, y) refl

-- a row of the pledge, of which more is asked
pub own_where : (b n : ℕ) (v : Row) (more : Bool)
    → list_all (λ (x : Bool). x) (is_at (column v 0) (number b) ∷ is_at (column v 1) (number n) ∷ more ∷ []) ≡ (at_pledge b n v && more)
own_where b n v more = regroup (is_at (column v 0) (number b)) (is_at (column v 1) (number n)) more

-- the totals of a row, beside what is to stand there, after the day
abbrev beside : Totals → Row → List (Value × Value)
beside t v = (column v 3, number t.principal) ∷ (column v 4, number t.millionths) ∷ []

abbrev others_in : Totals → Row → Bool
others_in t v = differ (column v 2, number t.day) (beside t v)

-- an optional number is stored as it is
pub cast_optional : (o : Option ℕ) → cast Integer (or_null number o) ≡ or_null number o
cast_optional None = cast_null
cast_optional (Some n) = cast_int n

-- a number is bound as it is
pub bound_number : {v : Value} {m n : ℕ} → v ≡ number m → m ≡ n → bound_value v ≡ number n
bound_number is same = ap bound_value is ∙ ap number same

pub bound_optional : {v : Value} (o : Option ℕ) → v ≡ or_null number o → bound_value v ≡ or_null number o
bound_optional None is = ap bound_value is
bound_optional (Some n) is = ap bound_value is

-- ---- rows that join

module _ (old new : State) (listed : Listed) (st : ListsOurs old.now listed) (count : ℕ) where
  -- a row of these values joins those of its table
  abbrev pub Joined : List ℕ → ℕ → Row → Type 0
  Joined text tree row = Executes text row old new (Ok count) → ListsOurs new.now (with_rows listed tree (row ∷ listed tree))

  put : (at : ℕ) (t : Table) (terms : List Term) (width : ℕ) (sql : List ℕ) → ((more : List Index) → IsPlace (with_indexes more) at t) → ((more : List Index)
      → Puts (with_indexes more) sql at terms width) → (row : Row) → value_rows row width (length terms / width) terms ≡ (Null ∷ row) ∷ [] → cast_row
      (plainly t) (Null ∷ row) ≡ Null ∷ row → ((rows : List Row) → columns_of (plainly t) (with_rowid Chosen rows (Null ∷ row)) ≡ row) → Joined sql t.tree row
  put at t terms width sql there puts row = row_joins at t terms width sql there puts old new row (Null ∷ row) (Null ∷ row) row count listed st

  pub entry_wrote : (b n : ℕ) (e : Entry) → Joined text.PUT_ENTRY.now entries_tree (under b n (entry_cells e))
  entry_wrote b n e = put 3 (record entries { tree = entries_tree }) text.six_values 7 text.PUT_ENTRY.now entries_place (λ more. (text.texts more).entry_is)
      (under b n (entry_cells e)) refl (λ i. cast_null i ∷ cast_int b i ∷ cast_int n i ∷ cast_int e.seq i ∷ cast_int e.day i ∷ cast_int (sort_number e.sort) i
      ∷ cast_int e.pence i ∷ []) (λ rows. refl)

  pub secret_wrote : (b n s : ℕ) (w : List ℕ) (e : Issued) → Blob w ≡ word e.secret
      → Executes text.PUT_SECRET.now (number b ∷ number n ∷ number s ∷ number e.day ∷ number (issue_number e.sort) ∷ Blob w ∷ []) old new (Ok count)
      → ListsOurs new.now (with_rows listed secrets_tree (under b n (secret_cells s e) ∷ listed secrets_tree))
  secret_wrote b n s w e secret h =
      put 4 (record secrets { tree = secrets_tree }) text.six_values 7 text.PUT_SECRET.now secrets_place (λ more. (text.texts more).secret_is)
      (under b n (secret_cells s e)) refl (λ i. cast_null i ∷ cast_int b i ∷ cast_int n i ∷ cast_int s i ∷ cast_int e.day i ∷ cast_int (issue_number e.sort) i
      ∷ word e.secret ∷ []) (λ rows. refl) (rw secret at h)

  pub extension_wrote : (b n s : ℕ) (e : Extension) → Joined text.PUT_EXTENSION.now extensions_tree (under b n (extension_cells s e))
  extension_wrote b n s e =
      put 8 (record extensions { tree = extensions_tree }) text.five_values 6 text.PUT_EXTENSION.now extensions_place (λ more. (text.texts more).extension_is)
      (under b n (extension_cells s e)) refl
      (λ i. cast_null i ∷ cast_int b i ∷ cast_int n i ∷ cast_int s i ∷ cast_int e.day i ∷ cast_int e.until i ∷ []) (λ rows. refl)

  pub terms_wrote : (b v : ℕ) (t : Rates) → Joined text.PUT_TERMS.now terms_tree (number b ∷ number v ∷ terms_cells t)
  terms_wrote b v t = put 1 (record terms { tree = terms_tree }) text.five_values 6 text.PUT_TERMS.now terms_place (λ more. (text.texts more).terms_is)
      (number b ∷ number v ∷ terms_cells t) refl
      (λ i. cast_null i ∷ cast_int b i ∷ cast_int v i ∷ cast_int t.rate i ∷ cast_int t.keep_before i ∷ cast_int t.keep_after i ∷ []) (λ rows. refl)

  pub new_totals_wrote : (b n : ℕ) (c : ℤ) (t : Totals) → c ≡ pos t.millionths → Executes text.PUT_TOTALS.now (number b ∷ number n ∷ number t.day
      ∷ number t.principal ∷ Int c ∷ []) old new (Ok count) → ListsOurs new.now (with_rows listed totals_tree (under b n (totals_cells t) ∷ listed totals_tree))
  new_totals_wrote b n c t charges h =
      put 7 (record totals { tree = totals_tree }) text.five_values 6 text.PUT_TOTALS.now totals_place (λ more. (text.texts more).new_totals_is)
      (under b n (totals_cells t)) refl (λ i. cast_null i ∷ cast_int b i ∷ cast_int n i ∷ cast_int t.day i ∷ cast_int t.principal i ∷ cast_int t.millionths i
      ∷ []) (λ rows. refl) (rw charges at h)

  pub new_totals_schema : (b n : ℕ) (c : ℤ) (t : Totals) → c ≡ pos t.millionths → Executes text.PUT_TOTALS.now (number b ∷ number n ∷ number t.day
      ∷ number t.principal ∷ Int c ∷ []) old new (Ok count) → new.now.schema ≡ old.now.schema
  new_totals_schema b n c t charges h = let row = under b n (totals_cells t) in
      joins_schema 7 (record totals { tree = totals_tree }) text.five_values 6 text.PUT_TOTALS.now totals_place (λ more. (text.texts more).new_totals_is)
      old new row (Null ∷ row) (Null ∷ row) row count listed st refl
      (λ i. cast_null i ∷ cast_int b i ∷ cast_int n i ∷ cast_int t.day i ∷ cast_int t.principal i ∷ cast_int t.millionths i ∷ []) (λ rows. refl)
      (rw charges at h)

  pub row_wrote : (b n : ℕ) (p : PledgeValue) {vs : Row} → vs ≡ under b n (pledge_cells p) → Executes text.PUT_PLEDGE.now vs old new (Ok count)
      → ListsOurs new.now (with_rows listed pledges_tree (under b n (pledge_cells p) ∷ listed pledges_tree))
  row_wrote b n p is ran =
      let o = p.agreement.opening in
      put 2 (record pledges { tree = pledges_tree }) text.sixteen_values 17 text.PUT_PLEDGE.now pledges_place (λ more. (text.texts more).pledge_is)
      (under b n (pledge_cells p)) refl (λ i. cast_null i ∷ cast_int b i ∷ cast_int n i ∷ Text o.reference ∷ Text o.article ∷ cast_int (kind_number o.kind) i
      ∷ cast_int (credit_of o.kind) i ∷ cast_int p.agreement.taken i ∷ cast_optional o.agreed i ∷ cast_int (flag_number o.five_days) i
      ∷ cast_int p.agreement.version i ∷ cast_int (end_of p) i ∷ cast_int (flag_number p.standing.held) i ∷ cast_int p.standing.last i ∷ cast_int
      (closed_number p.standing.closing) i ∷ cast_optional (closed_day p.standing.closing) i ∷ cast_optional (closed_amount p.standing.closing) i ∷ [])
      (λ rows. refl) (rw is at ran)

  -- ---- rows that take the place of others

  pub totals_wrote : (b n : ℕ) (c : ℤ) (t before : Totals) (rest : List Row) → c ≡ pos t.millionths → IsOnly (at_pledge b n) (listed totals_tree)
      (under b n (totals_cells before)) rest → Executes text.SET_TOTALS.now (number b ∷ number n ∷ number t.day ∷ number t.principal ∷ Int c ∷ []) old new
      (Ok count) → ListsOurs new.now (with_rows listed totals_tree (under b n (totals_cells t) ∷ rest))
  totals_wrote b n c t before rest charged only h = let after : Row = under b n (totals_cells t) in
      row_set_where 7 (record totals { tree = totals_tree }) totals_place (λ _. refl) text.totals_tests text.totals_shows text.SET_TOTALS.now
      (λ more. (text.texts more).totals_is)
      old new after count listed st (at_pledge b n) (others_in t) (λ r. let v = columns_of (plainly (record totals { tree = totals_tree })) r in
      own_where b n v (others_in t v)) (under b n (totals_cells before)) after rest
      only.split (own_row b n (totals_cells before)) only.none (λ none.
      let same = all_equal (number before.day, number t.day) (beside t (under b n (totals_cells before))) none in
      let day = same_number before.day t.day same.0 in let principal = same_number before.principal t.principal same.1.0 in
      let charges = same_number before.millionths t.millionths same.1.1.0 in
      (λ i. number b ∷ number n ∷ number (day i) ∷ number (principal i) ∷ number (charges i) ∷ [])) (λ id r at cols. (
        Int id ∷ after,
        after,
        (λ i. at i ∷ at i ∷ column (cols i) 0 ∷ column (cols i) 1 ∷ totals_cells t),
        (λ i. cast_whole id i ∷ cast_int b i ∷ cast_int n i ∷ cast_int t.day i ∷ cast_int t.principal i ∷ cast_int t.millionths i ∷ []),
        refl,
      )) (rw charged at h)

or_no : (x : Bool) → (x || false) ≡ x
or_no true = refl
or_no false = refl

-- the rows that a booking meets are those of its pledge
meets : (more : List Index) → AreLoose more → (b n d w s : ℕ) (id : ℤ) (r : Row)
    → conflicts (Some (1 ∷ 2 ∷ [])) (with_indexes more).indexes (plainly (record bookings { tree = bookings_tree }))
    (Int id ∷ number b ∷ number n ∷ number d ∷ number w ∷ number s ∷ []) r ≡ at_pledge b n (columns_of (plainly (record bookings { tree = bookings_tree })) r)
unfolding first_key
meets more loose b n d w s id r = let t : Table = plainly (record bookings { tree = bookings_tree }) in
    meets_same more loose (Some (1 ∷ 2 ∷ [])) t (Int id ∷ number b ∷ number n ∷ number d ∷ number w ∷ number s ∷ []) r ∙ or_no (at_pledge b n (columns_of t r))

booking_put : (b n d w s : ℕ) (before : Option Booking) (old new : State) (count : ℕ) (listed : Listed) (rest : List Row) → ListsOurs old.now listed
    → IsPermutation (listed bookings_tree) (at_most_one (λ r. r) (option_map (λ k. under b n (booking_cells k)) before) ++ rest)
    → filter (at_pledge b n) rest ≡ [] → Executes text.PUT_BOOKING.now (number b ∷ number n ∷ number d ∷ number w ∷ number s ∷ []) old new (Ok count)
    → ListsOurs new.now (with_rows listed bookings_tree ((number b ∷ number n ∷ number d ∷ number w ∷ number s ∷ []) ∷ rest))
booking_put b n d w s before old new count listed rest st splits none h = let vals : Row = number b ∷ number n ∷ number d ∷ number w ∷ number s ∷ [] in
    let more = st.more in
    under_same st (upserted (with_indexes more) 5 (record bookings { tree = bookings_tree }) (bookings_place more) (λ _. refl) text.five_values 6
    (1 ∷ 2 ∷ []) text.booking_tests text.booking_shows (at_pledge b n)
    text.PUT_BOOKING.now (text.texts more).booking_is.0 (text.texts more).booking_is.1 old new vals vals vals count listed rest st.lists (record {
      source = refl;
      unnumbered = λ i. cast_null i ∷ cast_int b i ∷ cast_int n i ∷ cast_int d i ∷ cast_int w i ∷ cast_int s i ∷ [];
      stored = λ id. (λ i. cast_whole id i ∷ cast_int b i ∷ cast_int n i ∷ cast_int d i ∷ cast_int w i ∷ cast_int s i ∷ []);
      columns = λ id. refl;
      meets = meets more st.loose b n d w s;
      passes_is = λ id k r. one _;
    })
    none (split more before splits) h) where
      one : (x : Bool) → (x && true) ≡ x
      one true = refl
      one false = refl

      split : (more : List Index) (before : Option Booking) → IsPermutation (listed bookings_tree) (at_most_one (λ r. r) (option_map (λ k. under b n
          (booking_cells k)) before) ++ rest) → Splits (with_indexes more) 5 (record bookings { tree = bookings_tree }) (bookings_place more) (λ _. refl)
          text.five_values 6 (1 ∷ 2 ∷ []) text.booking_tests text.booking_shows (at_pledge b n) (number b ∷ number n ∷ number d ∷ number w ∷ number s ∷ [])
          (number b ∷ number n ∷ number d ∷ number w ∷ number s ∷ []) (number b ∷ number n ∷ number d ∷ number w ∷ number s ∷ []) (listed bookings_tree) rest
      split more None same = inl same
      split more (Some k) same = inr (
        under b n (booking_cells k),
        same,
        own_row b n (booking_cells k),
        λ id j r at cols.
            let first : column r 1 ≡ number b = (let e = cols in cc) in
            let second : column r 2 ≡ number n = (let e = cols in cc) in (
              Int id ∷ number b ∷ number n ∷ number d ∷ number w ∷ number s ∷ [],
              number b ∷ number n ∷ number d ∷ number w ∷ number s ∷ [],
              (λ i. at i ∷ at i ∷ first i ∷ second i ∷ number d ∷ number w ∷ number s ∷ []),
              (λ i. cast_whole id i ∷ cast_int b i ∷ cast_int n i ∷ cast_int d i ∷ cast_int w i ∷ cast_int s i ∷ []),
              refl,
            ),
      )

pub booking_wrote : (b n d w s : ℕ) (k : Booking) (before : Option Booking) (old new : State) (listed : Listed) (rest : List Row) → d ≡ k.day → w ≡ k.window
    → s ≡ state_number k.state → ListsOurs old.now listed → IsPermutation (listed bookings_tree) (at_most_one (λ r. r) (option_map
    (λ k. under b n (booking_cells k)) before) ++ rest) → filter (at_pledge b n) rest ≡ [] → (count : ℕ) → Executes text.PUT_BOOKING.now (number b ∷ number n
    ∷ number d ∷ number w ∷ number s ∷ []) old new (Ok count) → ListsOurs new.now (with_rows listed bookings_tree (under b n (booking_cells k) ∷ rest))
booking_wrote b n d w s k before old new listed rest day window state st splits none count h =
    subst (λ cells. ListsOurs new.now (with_rows listed bookings_tree (under b n cells ∷ rest)))
    (λ i. number (day i) ∷ number (window i) ∷ number (state i) ∷ []) (booking_put b n d w s before old new count listed rest st splits none h)
