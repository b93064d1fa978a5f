-- Tables of an older schema, moved to the program's.
use Rattle.pawn_move.proofs.Basics.{both_told, clean_before, was_clean}
use Rattle.pawn_move.proofs.BooksUpTo.{Entry, here_found, past_head}
use Rattle.pawn_move.proofs.Filled.{firsts, untold}
use Rattle.pawn_move.proofs.Reading.{handed}
use Rattle.pawn_move.specs.Moving.{AreAllOwed, Finishes, HasMade, HasMoved, IsMoving, ListFirstDebts, Moves, MovesIndexed}
use Rattle.pawn_move.specs.Moving.{MovesOwed, PutsAll, listed_with}
use Rattle.pawn_move.specs.StandsUnder.{HasNoExtension, StandsUnder}
use Rattle.pawn_opening.specs.Common.{Row, HasCleanDisk, State, Host, IsLent, Holds, Lists, with_rows, StandsFor}
use Rattle.pawn_opening.specs.Laying.{AddsTable}
use Rattle.pawn_opening.specs.declared.indexing.Lacking.{Lacking}
use Rattle.pawn_saving.specs.RowWrites.{IsCarried}
use Rattle.pawn_tables.proofs.BookReads.{below_key}
use Rattle.pawn_tables.specs.Common.{entries, entries_sorted, find_key, get, get-entries, is_sorted, nat_cmp, Tables}
use Rattle.pawn_tables.specs.Common.{PledgeValue, Each, BookValue, HasUnsoundBook, KeepError, NoRecord, Rests}
use Rattle.pawn_tables.specs.Finding.{Finds, FindsOf}
use Rattle.pawn_tables.specs.Rows.{extension_cells, extensions_listed, number_in_book, placed_from, totals_listed}
use Rattle.pawn_tables.specs.Rows.{under}
use Rattle.pawn_tables.specs.Schema.{extensions, extensions_tree, first_schema, keep_schema, second_schema}
use Rattle.pawn_tables.specs.StandsFor.{of_pledges}
use Rattle.std.proofs.Common.{◌≡◌, ◌++◌, ℕ, List, [], Some, None, Option, Result, Ok, Err, OnOk, Bool, true, false, IsTrue}
use Rattle.std.proofs.Common.{refl, sym, ap, subst, ◌∙◌, arith, append-nil, T, flat_map, ◌∷◌, ◌≢◌}
use Rattle.pawn_book.specs.declared.fault.KeepError.TheVariants as Keeper

-- ---- what the tables list

first_lists : (db : Tables) (h : Host) → StandsUnder 1 db h → Lists first_schema db (listed_with 1 [] h)
first_lists db h st = record { schema_is = st.lists.schema_is; sound = st.lists.sound; tables = st.lists.tables }

second_lists : (db : Tables) (h : Host) → StandsUnder 2 db h → Lists second_schema db (listed_with 2 (of_pledges h totals_listed) h)
second_lists db h st = record { schema_is = st.lists.schema_is; sound = st.lists.sound; tables = st.lists.tables }

-- ---- a host without extensions has no rows of them

none_of_pledges : (b : ℕ) (ps : List PledgeValue) → Each (λ p. p.extensions ≡ []) ps → flat_map (extensions_listed b) ps ≡ []
none_of_pledges b [] none = refl
none_of_pledges b (p ∷ ps) none =
    ap (λ es. placed_from (λ place e. under b (number_in_book p) (extension_cells place e)) 1 es ++ flat_map (extensions_listed b) ps) none.0
    ∙ none_of_pledges b ps none.1

none_of_books : (f : ℕ → BookValue → List Row) (es : List Entry) → T (is_sorted nat_cmp es)
    → ((c : ℕ) (x : BookValue) → find_key nat_cmp c es ≡ Some x → f c x ≡ []) → flat_map (λ (e : Entry). f e.0 e.1) es ≡ []
none_of_books f [] sorted none = refl
none_of_books f (e ∷ es) sorted none =
    ap (λ l. l ++ flat_map (λ (e : Entry). f e.0 e.1) es) (none e.0 e.1 (here_found e es)) ∙ none_of_books f es (both_told _ _ sorted).1 (λ c x there.
    let behind = below_key e.0 es (both_told _ _ sorted).0 c x there in none c x (past_head e es c (λ same. absurd (omega (arith, same, behind))) ∙ there))

no_rows : (h : Host) → HasNoExtension h → of_pledges h extensions_listed ≡ []
no_rows h none = none_of_books (λ b k. flat_map (extensions_listed b) k.pledges) (entries h.books) (entries_sorted h.books)
    (λ c x there. none_of_pledges c x.pledges (none c x (get-entries h.books c ∙ there)))

-- ---- tables that were moved stand for the host

pub stands : (which : Option Lacking) (db : Tables) (h : Host) → HasMoved which (of_pledges h totals_listed) db h → StandsFor db h
stands which db h m = record {
  schema = record { more = m.lists.more; loose = m.lists.loose; is = m.lists.lists.schema_is };
  sound = m.lists.lists.sound;
  books = m.lists.lists.tables.0;
  terms = m.lists.lists.tables.1.0;
  pledges = m.lists.lists.tables.1.1.0;
  entries = m.lists.lists.tables.1.1.1.0;
  secrets = m.lists.lists.tables.1.1.1.1.0;
  bookings = m.lists.lists.tables.1.1.1.1.1.0;
  meta = m.lists.lists.tables.1.1.1.1.1.1.0;
  totals = m.lists.lists.tables.1.1.1.1.1.1.1.0;
  extensions = subst (Holds db.trees extensions_tree (record extensions { tree = extensions_tree }))
      (sym (no_rows h m.unextended)) m.lists.lists.tables.1.1.1.1.1.1.1.1.0;
  ordered = m.ordered;
  storable = m.storable;
}

-- ---- what the last statement leaves

noted : (which : Option Lacking) (old new : State) (n : ℕ) (r : Result (Unit {0}) KeepError) (h : Host) → r ≢ Err (Keeper.Store NoRecord) → HasCleanDisk new
    → IsTrue old.in_transaction → Finishes which old new r → IsMoving n (of_pledges h totals_listed) old.now h
    → Finds r (λ done. StandsFor new.now h) (HasUnsoundBook h)
noted which old new n (Ok done) h not clean within notes m = stands which new.now h (notes clean within n (of_pledges h totals_listed) h m)
noted which old new n (Err e) h not clean within notes m = untold e (λ done. StandsFor new.now h) (HasUnsoundBook h) (λ same. not (ap Err same))

made_of : (which : Option Lacking) (owed : List Row) (db : Tables) (h : Host) (r : Result (Unit {0}) KeepError) → OnOk r (HasMoved which owed db h)
    → OnOk r (HasMade which db.schema)
made_of which owed db h (Ok done) it = it.made
made_of which owed db h (Err e) it = tt

-- ---- from the first schema

module _ (s0 s1 s2 : State) (l1 : IsLent s0 s1 true) (l2 : IsLent s1 s2 true) (made1 : AddsTable {E = KeepError} s0 s1 (Ok tt) first_schema second_schema 15)
    (made2 : AddsTable {E = KeepError} s1 s2 (Ok tt) second_schema keep_schema 17) where
  made_first : HasCleanDisk s2 → IsTrue s0.in_transaction → (h : Host) → StandsUnder 1 s0.now h → IsMoving 1 [] s2.now h × IsTrue s2.in_transaction
  made_first clean within h st = let clean1 = clean_before s1 s2 true l2 clean in
      let within1 = l1.inside clean1 within refl in let a = made1 clean1 within (listed_with 1 [] h) (first_lists s0.now h st) in
      let b = made2 clean within1 (with_rows (listed_with 1 [] h) 15 []) a in (
        record {
          lists = record { schema_is = b.schema_is; sound = b.sound; tables = b.tables };
          ordered = st.ordered;
          storable = st.storable;
          unextended = st.unextended (omega arith);
        },
        l2.inside clean within1 refl,
      )

  pub first_not_put : (s3 : State) (e : KeepError) → IsCarried s2 s3 false → PutsAll s2 s3 (Err e) → Moves 1 s0 s3 (Err e)
  first_not_put s3 e carried puts clean within h none st = let mid = made_first (was_clean s2 s3 false carried clean) within h st in
      handed e _ _ _ _ (λ it. it) (puts clean mid.1 1 [] h none mid.0)

  module _ (which : Option Lacking) (s3 s4 : State) (r : Result (Unit {0}) KeepError) (ok : Bool) (carried : IsCarried s2 s3 true) (l4 : IsLent s3 s4 ok)
      (puts : PutsAll s2 s3 (Ok tt)) (finishes : Finishes which s3 s4 r) where
    first_put : HasCleanDisk s4 → IsTrue s0.in_transaction → (h : Host) → get h.books 0 ≡ None → StandsUnder 1 s0.now h
        → IsMoving 1 (of_pledges h totals_listed) s3.now h × IsTrue s3.in_transaction
    first_put clean within h none st = let clean3 = clean_before s3 s4 ok l4 clean in
        let mid = made_first (was_clean s2 s3 true carried clean3) within h st in let put = puts clean3 mid.1 1 [] h none mid.0 in
        (subst (λ rows. IsMoving 1 rows s3.now h) (append-nil _) put.1, carried.inside clean3 mid.1 refl)

    pub first_moved : r ≢ Err (Keeper.Store NoRecord) → Moves 1 s0 s4 r
    first_moved not clean within h none st = let put = first_put clean within h none st in
        noted which s3 s4 1 r h not clean put.1 finishes put.0

    pub first_indexed : MovesIndexed 1 which s0 s4 r
    first_indexed clean within h none st = let put = first_put clean within h none st in
        made_of which (of_pledges h totals_listed) s4.now h r (finishes clean put.1 1 (of_pledges h totals_listed) h put.0)

  pub first_owed : (s3 s4 : State) (r : Result (Unit {0}) KeepError) (ok : Bool) → IsCarried s2 s3 true → IsLent s3 s4 ok → PutsAll s2 s3 (Ok tt)
      → MovesOwed 1 s0 s4 r
  first_owed s3 s4 r ok carried l4 puts clean within h none st = go r where
    go : (x : Result (Unit {0}) KeepError) → OnOk x (AreAllOwed h)
    go (Ok done) = let clean3 = clean_before s3 s4 ok l4 clean in
        let mid = made_first (was_clean s2 s3 true carried clean3) within h st in
        (puts clean3 mid.1 1 [] h none mid.0).0
    go (Err e) = tt

-- ---- from the second

module _ (s0 s1 : State) (l1 : IsLent s0 s1 true) (made : AddsTable {E = KeepError} s0 s1 (Ok tt) second_schema keep_schema 17) where
  made_second : HasCleanDisk s1 → IsTrue s0.in_transaction → (h : Host) → StandsUnder 2 s0.now h
      → IsMoving 2 (of_pledges h totals_listed) s1.now h × IsTrue s1.in_transaction
  made_second clean within h st = let b = made clean within (listed_with 2 (of_pledges h totals_listed) h) (second_lists s0.now h st) in (
    record {
      lists = record { schema_is = b.schema_is; sound = b.sound; tables = b.tables };
      ordered = st.ordered;
      storable = st.storable;
      unextended = st.unextended (omega arith);
    },
    l1.inside clean within refl,
  )

  -- the debts that were checked once the table was made
  checked_second : {A : Type 0} (s2 : State) (ok : Bool) (r : Result A KeepError) (P : Host → A → Type 0) → IsCarried s1 s2 ok
      → FindsOf ListFirstDebts HasUnsoundBook s1 s2 r P → HasCleanDisk s2 → IsTrue s0.in_transaction
      → (h : Host) → StandsUnder 2 s0.now h → IsMoving 2 (of_pledges h totals_listed) s1.now h × Finds r (λ x. P h x × Rests s1 s2) (HasUnsoundBook h)
  checked_second s2 ok r P carried checked clean within h st = let mid = made_second (was_clean s1 s2 ok carried clean) within h st in
      (mid.0, checked clean mid.1 h (λ now. firsts 2 (of_pledges h totals_listed) s1.now h mid.0))

  pub second_not_checked : (s2 : State) (e : KeepError) (P : Host → Unit {0} → Type 0) → IsCarried s1 s2 false
      → FindsOf ListFirstDebts HasUnsoundBook s1 s2 (Err e) P → Moves 2 s0 s2 (Err e)
  second_not_checked s2 e P carried checked clean within h none st =
      handed e _ _ _ _ (λ it. it) (checked_second s2 false (Err e) P carried checked clean within h st).1

  module _ (s2 s3 : State) (ok : Bool) (r : Result (Unit {0}) KeepError) (carried : IsCarried s1 s2 true) (l3 : IsLent s2 s3 ok)
      (checked : FindsOf {A = Unit {0}} ListFirstDebts HasUnsoundBook s1 s2 (Ok tt) (λ h done. get h.books 0 ≡ None → AreAllOwed h)) where
    second_kept : HasCleanDisk s3 → IsTrue s0.in_transaction → (h : Host) → StandsUnder 2 s0.now h
        → IsMoving 2 (of_pledges h totals_listed) s2.now h × IsTrue s2.in_transaction
    second_kept clean within h st =
        let found = checked_second {A = Unit {0}} s2 true (Ok tt) (λ h done. get h.books 0 ≡ None → AreAllOwed h) carried checked
        (clean_before s2 s3 ok l3 clean) within h st in
        (subst (λ d. IsMoving 2 (of_pledges h totals_listed) d h) (sym found.1.1.now_is) found.0, found.1.1.inside)

    pub second_moved : (which : Option Lacking) → r ≢ Err (Keeper.Store NoRecord) → Finishes which s2 s3 r → Moves 2 s0 s3 r
    second_moved which not finishes clean within h none st = let kept = second_kept clean within h st in
        noted which s2 s3 2 r h not clean kept.1 finishes kept.0

    pub second_indexed : (which : Option Lacking) → Finishes which s2 s3 r → MovesIndexed 2 which s0 s3 r
    second_indexed which finishes clean within h none st = let kept = second_kept clean within h st in
        made_of which (of_pledges h totals_listed) s3.now h r (finishes clean kept.1 2 (of_pledges h totals_listed) h kept.0)

    pub second_owed : MovesOwed 2 s0 s3 r
    second_owed clean within h none st = go r where
      go : (x : Result (Unit {0}) KeepError) → OnOk x (AreAllOwed h)
      go (Ok done) = (checked_second {A = Unit {0}} s2 true (Ok tt) (λ h done. get h.books 0 ≡ None → AreAllOwed h) carried checked
          (clean_before s2 s3 ok l3 clean) within h st).1.0 none
      go (Err e) = tt
