-- What the query for the windows of a day shows, where the tables stand for a host.
use Rattle.one_table.proofs.Distinct.{each_shown_once, shown_apart, shown_once_each}
use Rattle.pawn_tables.proofs.Basics.{nat_tests, all-map, all_from_map, all_weaker, value_cmp-Int}
use Rattle.pawn_tables.proofs.LineReads.{all_kept, booking_in, confirmed_state}
use Rattle.pawn_tables.proofs.OneEach.{shown_each, tell_of}
use Rattle.pawn_tables.proofs.RowsUnderKey.{equals}
use Rattle.pawn_tables.specs.At.{is_at, is_below}
use Rattle.pawn_tables.specs.Common.{get, AllByRecursion, IsDistinct, cons_option, list_all, list_any, eq_by_cmp, is_eq}
use Rattle.pawn_tables.specs.Common.{ordering_then, Equal, Greater, Less, Binary, Row, column, value_cmp, Shown, State}
use Rattle.pawn_tables.specs.Common.{Table, PledgeValue, Booking, is_confirmed, is_confirmed_for, Host, pledges_of}
use Rattle.pawn_tables.specs.Common.{part_items, Confirmed}
use Rattle.pawn_tables.specs.Heads.{number_cells}
use Rattle.pawn_tables.specs.Lines.{NamesWindows}
use Rattle.pawn_tables.specs.Ours.{with_indexes}
use Rattle.pawn_tables.specs.Rows.{booking_cells, booking_listed, number, number_in_book, state_number, under}
use Rattle.pawn_tables.specs.Schema.{bookings, bookings_tree}
use Rattle.pawn_tables.specs.StandsFor.{StandsFor, of_pledges}
use Rattle.sqlite_value.proofs.KeyLemmas.{collated_cmp_total}
use Rattle.sqlite_value.specs.Keys.{collated_cmp}
use Rattle.std.proofs.Common.{◌≡◌, ◌≢◌, ◌==◌, ℕ, ◌<◌, ◌≤◌, pos, List, [], ◌∷◌, map, filter, filter_map, nat_lt, Bool}
use Rattle.std.proofs.Common.{true, false, cond, ◌&&◌, ◌||◌, Option, Some, None, refl, sym, ap, subst, ◌∙◌, arith}
use Rattle.std.proofs.Common.{true≢false}
use Rattle.std.proofs.Math.Bool.{and-true}
use Rattle.std.proofs.lemmas.Cmp.{alike_right, tied_itself}
use Rattle.std.specs.declared.cmp.Ordering.{Ordering}
use Rattle.pawn_book.specs.declared.sheet.SheetPart.TheVariants as part_of
use Rattle.pawn_tables.proofs.ReadTexts as text
use Rattle.pawn_tables.proofs.BookReads as books

-- a booking that is confirmed for one of the windows of the day
abbrev comes_on : ℕ → Booking → Bool
comes_on day k = (k.day == day) && (is_confirmed k.state && nat_lt k.window 16)

abbrev window_told : ℕ → PledgeValue → Option ℕ
window_told day p = tell_of (comes_on day) (λ n (k : Booking). k.window) (number_in_book p) p.standing.booking

-- a window without a pledge's line has no confirmed visit
none_comes : (day w : ℕ) → w < 16 → (ps : List PledgeValue) → AllByRecursion (λ (n : ℕ). n ≢ w) (filter_map (window_told day) ps)
    → part_items (part_of.Confirmed w) day ps ≡ []
none_comes day w few [] all = refl
none_comes day w few (p ∷ ps) all = go (λ more. none_comes day w few ps more) p.standing.booking all where
  go : (AllByRecursion (λ (n : ℕ). n ≢ w) (filter_map (window_told day) ps) → part_items (part_of.Confirmed w) day ps ≡ []) → (o : Option Booking)
      → AllByRecursion (λ (n : ℕ). n ≢ w) (cons_option (tell_of (comes_on day) (λ n (k : Booking). k.window) (number_in_book p) o) (filter_map (window_told day)
      ps)) → cons_option (cond (is_confirmed_for day w o) (Some (Confirmed (number_in_book p))) None) (part_items (part_of.Confirmed w) day ps) ≡ []
  go rest None all = rest all
  go rest (Some k) all = each (k.day == day) (k.window == w) (is_confirmed k.state) (nat_lt k.window 16) (λ e. grind (arith, nat_tests, e))
      (λ e. grind (arith, nat_tests, e, few)) all
    where
      each : (d e s l : Bool) → (e ≡ true → k.window ≡ w) → (e ≡ true → l ≡ true)
          → AllByRecursion (λ (n : ℕ). n ≢ w) (cons_option (cond (d && (s && l)) (Some k.window) None) (filter_map (window_told day) ps))
          → cons_option (cond ((d && e) && s) (Some (Confirmed (number_in_book p))) None) (part_items (part_of.Confirmed w) day ps) ≡ []
      each true true true true same low all = absurd (all.0 (same refl))
      each true true true false same low all = absurd (true≢false (sym (low refl)))
      each true true false l same low all = rest all
      each true false true true same low all = rest all.1
      each true false true false same low all = rest all
      each true false false l same low all = rest all
      each false e s l same low all = rest all

-- an item before others
some_items : {X : Type 0} (o : Option X) (xs : List X) → xs ≢ [] → cons_option o xs ≢ []
some_items None xs some = some
some_items (Some x) xs some = λ none. absurd (let e = none in cc)

one_shown : {X : Type 0} (c : Bool) (x : X) (xs : List X) → c ≡ true → cons_option (cond c (Some x) None) xs ≢ []
one_shown true x xs is = λ none. absurd (let e = none in cc)
one_shown false x xs is = absurd (true≢false (sym is))

-- a window of the day with a confirmed visit of a pledge with this booking, or of these other pledges
abbrev Comes : ℕ → PledgeValue → List PledgeValue → Option Booking → ℕ → Type 0
Comes day p ps o n =
    (n ≤ 15) × (cons_option (cond (is_confirmed_for day n o) (Some (Confirmed (number_in_book p))) None) (part_items (part_of.Confirmed n) day ps) ≢ [])

-- a window with a pledge's line has a confirmed visit
some_comes : (day : ℕ) (ps : List PledgeValue)
    → AllByRecursion (λ (n : ℕ). (n ≤ 15) × (part_items (part_of.Confirmed n) day ps ≢ [])) (filter_map (window_told day) ps)
some_comes day [] = tt
some_comes day (p ∷ ps) = go (some_comes day ps) p.standing.booking where
  later : (o : Option Booking) → AllByRecursion (λ (n : ℕ). (n ≤ 15) × (part_items (part_of.Confirmed n) day ps ≢ [])) (filter_map (window_told day) ps)
      → AllByRecursion (Comes day p ps o) (filter_map (window_told day) ps)
  later o all = all_weaker (λ (n : ℕ). (n ≤ 15) × (part_items (part_of.Confirmed n) day ps ≢ [])) (Comes day p ps o)
      (λ n it. (it.0, some_items (cond (is_confirmed_for day n o) (Some (Confirmed (number_in_book p))) None) (part_items (part_of.Confirmed n) day ps) it.1))
      (filter_map (window_told day) ps) all

  comes : (k : Booking) → (k.day == day) ≡ true → is_confirmed k.state ≡ true → nat_lt k.window 16 ≡ true → Comes day p ps (Some k) k.window
  comes k on confirmed low = let here : (k.window == k.window) ≡ true = grind (arith, nat_tests) in (
    grind (arith, nat_tests, low),
    one_shown (is_confirmed_for day k.window (Some k)) (Confirmed (number_in_book p)) (part_items (part_of.Confirmed k.window) day ps)
        (λ i. (on i && here i) && confirmed i),
  )

  go : AllByRecursion (λ (n : ℕ). (n ≤ 15) × (part_items (part_of.Confirmed n) day ps ≢ [])) (filter_map (window_told day) ps) → (o : Option Booking)
      → AllByRecursion (Comes day p ps o)
      (cons_option (tell_of (comes_on day) (λ n (k : Booking). k.window) (number_in_book p) o) (filter_map (window_told day) ps))
  go all None = later None all
  go all (Some k) = each (k.day == day) (is_confirmed k.state) (nat_lt k.window 16) refl refl refl where
    each : (d s l : Bool) → (k.day == day) ≡ d → is_confirmed k.state ≡ s → nat_lt k.window 16 ≡ l
        → AllByRecursion (Comes day p ps (Some k)) (cons_option (cond (d && (s && l)) (Some k.window) None) (filter_map (window_told day) ps))
    each true true true on confirmed low = (comes k on confirmed low, later (Some k) all)
    each true true false on confirmed low = later (Some k) all
    each true false l on confirmed low = later (Some k) all
    each false s l on confirmed low = later (Some k) all

abbrev at_windows : ℕ → ℕ → Row → Bool
at_windows b day v = list_all (λ (x : Bool). x)
    (is_at (column v 0) (number b) ∷ is_at (column v 2) (number day) ∷ is_at (column v 4) (number 1) ∷ is_below (column v 3) (number 16) ∷ [])

windows_passes : (b day m n : ℕ) (k : Booking) → at_windows b day (under m n (booking_cells k)) ≡ ((m == b) && (true && comes_on day k))
windows_passes b day m n k = λ i. equals m b i && (equals k.day day i
    && ((equals (state_number k.state) 1 ∙ confirmed_state k.state) i && (and-true (is_below (number k.window) (number 16)) ∙ books.lesser k.window 16) i))

one_number : (m n : ℕ) → number_cells m ≡ number_cells n → m ≡ n
one_number m n same = let e = same in cc

numbers_in : (rows : List Row) → AllByRecursion (λ r. (n : ℕ) × (r ≡ number_cells n)) rows → (ns : List ℕ) × (rows ≡ map number_cells ns)
numbers_in [] all = ([], refl)
numbers_in (r ∷ rs) all = let rest = numbers_in rs all.1 in (all.0.0 ∷ rest.0, (λ i. all.0.1 i ∷ rest.1 i))

-- rows of other numbers
tied : (m n : ℕ) → is_eq (value_cmp (number m) (number n)) ≡ (m == n)
tied m n = ap is_eq (value_cmp-Int (pos m) (pos n)) ∙ grind (arith, nat_tests)

then_equal : (o : Ordering) → is_eq (ordering_then o (collated_cmp [] [] [])) ≡ is_eq o
then_equal Less = refl
then_equal Equal = refl
then_equal Greater = refl

-- numbers of rows of which no two are equal
numbers_apart : (ns : List ℕ) → IsDistinct (eq_by_cmp (collated_cmp (Binary ∷ []))) (map number_cells ns) → IsDistinct (λ m n. m == n) ns
unfolding IsDistinct
numbers_apart [] apart = tt
numbers_apart (n ∷ ns) apart = (
  all_weaker _ (λ (m : ℕ). (n == m) ≡ false) (λ m other. sym (then_equal (value_cmp (number n) (number m)) ∙ tied n m) ∙ other) ns
      (all_from_map (λ r. eq_by_cmp (collated_cmp (Binary ∷ [])) (number_cells n) r ≡ false) number_cells ns apart.0),
  numbers_apart ns apart.1,
)

others : (w : ℕ) (ns : List ℕ) → list_any (λ n. n == w) ns ≡ false → AllByRecursion (λ (n : ℕ). (n == w) ≡ false) ns
others w [] none = tt
others w (n ∷ ns) none = go (λ rest. others w ns rest) (n == w) refl none where
  go : (list_any (λ m. m == w) ns ≡ false → AllByRecursion (λ (m : ℕ). (m == w) ≡ false) ns) → (c : Bool) → (n == w) ≡ c
      → (c || list_any (λ m. m == w) ns) ≡ false → AllByRecursion (λ (m : ℕ). (m == w) ≡ false) (n ∷ ns)
  go rest true is none = absurd (true≢false none)
  go rest false is none = (is, rest none)

apart : (w n : ℕ) → (n == w) ≡ false → collated_cmp (Binary ∷ []) (number_cells w) (number_cells n) ≡ Equal → ⊥
apart w n other same = go (value_cmp (number w) (number n)) refl same where
  go : (o : Ordering) → value_cmp (number w) (number n) ≡ o → ordering_then o (collated_cmp [] [] []) ≡ Equal → ⊥
  go Less is same = let e = same in cc
  go Equal is same = let eq : (w == n) ≡ true = sym (tied w n) ∙ ap is_eq is in grind (arith, nat_tests, eq, other)
  go Greater is same = let e = same in cc

module _ (b day : ℕ) (old new : State) (h : Host) (rows : List Row) (st : StandsFor old.now h)
    (shown : Shown text.READ_WINDOWS.now (number b ∷ number day ∷ []) old new rows) where
  abbrev ps : List PledgeValue
  ps = pledges_of (get h.books b)

  abbrev cells : Row → Row
  cells v = column v 3 ∷ []

  abbrev table : Table
  table = record bookings { tree = bookings_tree }

  told : map cells (filter (at_windows b day) (of_pledges h booking_listed)) ≡ map number_cells (filter_map (window_told day) ps)
  told = shown_each b booking_in booking_cells (at_windows b day) (λ n. true) (comes_on day) (λ n (k : Booking). k.window) cells number_cells
      (windows_passes b day) (λ m n k. refl) h ∙ ap (λ qs. map number_cells (filter_map (window_told day) qs)) (all_kept ps)

  abbrev IsComing : Row → Type 0
  IsComing r = (n : ℕ) × (r ≡ number_cells n) × (n ≤ 15) × (part_items (part_of.Confirmed n) day ps ≢ [])

  pub windows_shown : (ns : List ℕ) × (rows ≡ map number_cells ns) × NamesWindows day ps ns
  windows_shown =
      let told_come = all-map IsComing number_cells _ (all_weaker _ (λ n. IsComing (number_cells n)) (λ n it. (n, refl, it.0, it.1)) _ (some_comes day ps)) in
      let shown_come = shown_once_each (with_indexes st.schema.more) bookings_tree (λ _. refl) table text.windows_tests text.windows_shows (Binary ∷ [])
      (number b ∷ number day ∷ []) (at_windows b day) cells (λ _. refl) (λ _. refl) text.READ_WINDOWS.now _ ((text.texts st.schema.more).windows_is) old new
      (of_pledges h booking_listed) rows st.schema.is st.bookings shown
      IsComing (subst (AllByRecursion IsComing) (sym told) told_come) in
      let ns = numbers_in rows (all_weaker IsComing (λ r. (n : ℕ) × (r ≡ number_cells n)) (λ r it. (it.0, it.1)) rows shown_come) in
      let apart = shown_apart (with_indexes st.schema.more) bookings_tree (λ _. refl) table text.windows_tests text.windows_shows (Binary ∷ [])
      (number b ∷ number day ∷ []) (at_windows b day) cells (λ _. refl) (λ _. refl) text.READ_WINDOWS.now _ ((text.texts st.schema.more).windows_is) old new
      (of_pledges h booking_listed) rows st.schema.is st.bookings shown in (
        ns.0,
        ns.1,
        record {
          whole = λ w few none. none_comes day w (omega (arith, few)) ps (names w ns.0 ns.1 none);
          comes = comes_all ns.0 (all_from_map IsComing number_cells ns.0 (subst (AllByRecursion IsComing) ns.1 shown_come));
          once = numbers_apart ns.0 (subst (IsDistinct (eq_by_cmp (collated_cmp (Binary ∷ [])))) ns.1 apart);
        },
      ) where
        comes_all : (ns : List ℕ) → AllByRecursion (λ n. IsComing (number_cells n)) ns
            → AllByRecursion (λ w. (w ≤ 15) × (part_items (part_of.Confirmed w) day ps ≢ [])) ns
        comes_all ns all = all_weaker (λ (n : ℕ). IsComing (number_cells n)) (λ (w : ℕ). (w ≤ 15) × (part_items (part_of.Confirmed w) day ps ≢ [])) (λ n it. let
            same : n ≡ it.0 = one_number n it.0 it.1 in subst (λ m. (m ≤ 15) × (part_items (part_of.Confirmed m) day ps ≢ [])) (sym same) (it.2, it.3)) ns all

        names : (w : ℕ) (ns : List ℕ) → rows ≡ map number_cells ns → list_any (λ n. n == w) ns ≡ false
            → AllByRecursion (λ (n : ℕ). n ≢ w) (filter_map (window_told day) ps)
        names w ns are none = let P : Row → Type 0 = λ r. collated_cmp (Binary ∷ []) (number_cells w) r ≡ Equal → ⊥ in
            let rows_apart =
            subst (AllByRecursion P) (sym are) (all-map P number_cells ns (all_weaker _ (λ n. P (number_cells n)) (apart w) ns (others w ns none))) in
            let all = each_shown_once (with_indexes st.schema.more) bookings_tree (λ _. refl) table text.windows_tests text.windows_shows (Binary ∷ [])
            (number b ∷ number day ∷ []) (at_windows b day) cells (λ _. refl) (λ _. refl) text.READ_WINDOWS.now _
            ((text.texts st.schema.more).windows_is) old new (of_pledges h booking_listed) rows st.schema.is st.bookings shown
            P (λ x y same not e. not (alike_right (collated_cmp_total (Binary ∷ [])) x y (number_cells w) same ∙ e)) rows_apart in
            all_weaker _ (λ (n : ℕ). n ≢ w) (λ n not same. not (ap (λ m. collated_cmp (Binary ∷ []) (number_cells w) (number_cells m)) same
            ∙ tied_itself (collated_cmp_total (Binary ∷ [])) (number_cells w))) _ (all_from_map P number_cells _ (subst (AllByRecursion P) told all))
