-- One row is put into a table, or takes the place of one that is there.
use Rattle.one_table.specs.Columns.{no_stamps}
use Rattle.one_table.specs.Common.{Ordering, Equal, Greater, Less, Enforced, Row, value_cmp, Chosen, Schema, Table}
use Rattle.one_table.specs.Common.{IsTable, Trees, has_rowid, put_row, rowid, without_rowid, is_int, Value, Blob, Int}
use Rattle.one_table.specs.Common.{Null, Real, Text}
use Rattle.one_table.specs.Listing.{IsNumbered, Holds, Listed, with_rows, columns_of}
use Rattle.sqlite.specs.Cast.{cast, cast_row}
use Rattle.sqlite.specs.Edit.{Applies, are_fresh, edit_of, is_taken, with_rowid}
use Rattle.sqlite.specs.Kind.TheVariants.{Integer}
use Rattle.sqlite.specs.Ops.{unary}
use Rattle.sqlite_trees.proofs.ListLemmas.{all-filter, all_weaker, filter_all}
use Rattle.sqlite_trees.proofs.TreeLemmas.{IsShaped-put_row, later_rowids}
use Rattle.sqlite_value.proofs.OrderLemmas.{value_cmp_total}
use Rattle.std.proofs.Common.{◌≡◌, ◌≢◌, ◌⊎◌, ◌==◌, inl, inr, ℕ, zero, suc, ℤ, pos, List, [], ◌∷◌, map, filter, length}
use Rattle.std.proofs.Common.{Bool, true, false, cond, not, ◌&&◌, ◌||◌, Some, refl, sym, ap, subst, ◌∙◌, arith}
use Rattle.std.proofs.Common.{IsPermutation, slice_get, true≢false, IsTrue}
use Rattle.std.proofs.lemmas.Bool.Decides.{nat_tests}
use Rattle.std.proofs.lemmas.Cmp.{tied_itself}
use Rattle.std.proofs.lemmas.List.Sorted.{IsPermutation-cons, IsPermutation-refl, IsPermutation-trans}
use Rattle.std.proofs.lemmas.List.Sorted.{IsPermutation-middle}
use Rattle.std.specs.List.{AllByRecursion}
use Rattle.std.specs.Ordering.{is_eq, is_lt, match_ordering}

-- ---- a row that has a new number

pub swapped : {A : Type 0} (a b : A) (rows : List A) → IsPermutation (a ∷ b ∷ rows) (b ∷ a ∷ rows)
swapped a b rows = IsPermutation-middle (a ∷ []) b rows

-- the number is not taken, so the row only joins the others
pub put_new : (new : Row) (rows : List Row) → is_taken rows new ≡ false → IsPermutation (new ∷ rows) (put_row new rows)
put_new new [] h = IsPermutation-refl _
put_new new (r ∷ rows) h = go (value_cmp (rowid r) (rowid new)) h (put_new new rows) where
  go : (o : Ordering) → (is_eq o || is_taken rows new) ≡ false → (is_taken rows new ≡ false → IsPermutation (new ∷ rows) (put_row new rows))
      → IsPermutation (new ∷ r ∷ rows) (match_ordering o (r ∷ put_row new rows) (new ∷ rows) (new ∷ r ∷ rows))
  go Less h more = IsPermutation-trans _ _ _ (swapped new r rows) (IsPermutation-cons r _ _ (more h))
  go Equal h more = absurd (true≢false h)
  go Greater h more = IsPermutation-refl _

pub first_fresh : (rows news : List Row) (row : Row) → are_fresh rows (row ∷ news) ≡ true → is_taken rows row ≡ false
first_fresh rows news row h = go (is_taken rows row) h where
  go : (b : Bool) → (not b && are_fresh (put_row row rows) news) ≡ true → b ≡ false
  go true h = absurd (true≢false (sym h))
  go false h = refl

-- ---- integers are stored as they are

either : (b : Bool) (x : Value) → cond b x x ≡ x
either true x = refl
either false x = refl

pub cast_null : cast Integer Null ≡ Null
unfolding unary
cast_null = either _ Null

pub cast_whole : (n : ℤ) → cast Integer (Int n) ≡ Int n
unfolding unary
cast_whole n = either _ (Int n)

pub cast_int : (n : ℕ) → cast Integer (Int (pos n)) ≡ Int (pos n)
unfolding unary
cast_int n = either _ (Int (pos n))

-- no AUTOINCREMENT, and no default that reads the time
abbrev pub plainly : Table → Table
plainly t = record t { is_counted = false; stamps = no_stamps }

pub is_keyed : (b : Bool) → (b && true) ≡ true → IsTrue b
is_keyed true h = refl
is_keyed false h = absurd (true≢false (sym h))

-- the table of an edit that puts this one row has it beside the others, at a number of its own
pub put_one : (schema : Schema) (db next : Trees) (table : Table) (row : Row) → Applies schema Enforced db (edit_of db table [] Chosen 0 (row ∷ [])) next
    → let new = with_rowid Chosen (db table.tree) (cast_row table row) in
    IsPermutation (new ∷ db table.tree) (next table.tree) × (IsNumbered (db table.tree) → IsNumbered (next table.tree))
put_one schema db next table row h = let new = with_rowid Chosen (db table.tree) (cast_row table row) in (
  subst (IsPermutation (new ∷ db table.tree)) (sym h.rows) (put_new new (db table.tree) (first_fresh (db table.tree) [] new h.fresh)),
  λ numbered. subst IsNumbered (sym h.rows) (IsShaped-put_row new (db table.tree) (is_keyed _ h.keyed) numbered),
)

-- ---- a table whose row numbers rise

none_passes : {A : Type 0} (p : A → Bool) (xs : List A) → filter p xs ≡ [] → AllByRecursion (λ x. p x ≡ false) xs
none_passes p [] h = tt
none_passes {A} p (x ∷ xs) h = go (p x) refl h (none_passes p xs) where
  go : (b : Bool) → p x ≡ b → cond b (x ∷ filter p xs) (filter p xs) ≡ [] → (filter p xs ≡ [] → AllByRecursion (λ y. p y ≡ false) xs)
      → AllByRecursion (λ y. p y ≡ false) (x ∷ xs)
  go true is h more = absurd (let e = h in cc)
  go false is h more = (is, more h)

-- the one row that passes is the one row that has its number
pub without_one : (p : Row → Bool) (id : ℤ) (r : Row) (xs : List Row) → rowid r ≡ Int id → IsTable xs → filter p xs ≡ r ∷ []
    → without_rowid id xs ≡ filter (λ x. not (p x)) xs
without_one p id r [] at rising one = absurd (let e = one in cc)
without_one p id r (x ∷ xs) at rising one = go (p x) refl one (without_one p id r xs at rising.1) where
  go : (b : Bool) → p x ≡ b → cond b (x ∷ filter p xs) (filter p xs) ≡ r ∷ [] → (filter p xs ≡ r ∷ [] → without_rowid id xs ≡ filter (λ y. not (p y)) xs)
      → without_rowid id (x ∷ xs) ≡ cond (not b) (x ∷ filter (λ y. not (p y)) xs) (filter (λ y. not (p y)) xs)
  go true is one more = let same : x ≡ r = cc in
      let others : filter p xs ≡ [] = cc in
      let tied : value_cmp (rowid x) (Int id) ≡ Equal = ap (λ v. value_cmp v (Int id)) (ap rowid same ∙ at) ∙ tied_itself value_cmp_total (Int id) in
      ap (λ o. cond (not (is_eq o)) (x ∷ without_rowid id xs) (without_rowid id xs)) tied ∙ filter_all (λ y. not (has_rowid id y)) xs
      (all_weaker _ (λ y. not (has_rowid id y) ≡ true) (λ y e. ap not e) xs (later_rowids (Int id) x xs (ap is_lt tied) rising.0))
      ∙ sym (filter_all (λ y. not (p y)) xs (all_weaker _ (λ y. not (p y) ≡ true) (λ y e. ap not e) xs (none_passes p xs others)))
  go false is one more = let above = all-filter (λ y. value_cmp (rowid x) (rowid y) ≡ Less) p xs rising.0 in
      let less : value_cmp (rowid x) (Int id) ≡ Less = ap (value_cmp (rowid x)) (sym at)
      ∙ (subst (AllByRecursion (λ y. value_cmp (rowid x) (rowid y) ≡ Less)) one above).0 in
      ap (λ o. cond (not (is_eq o)) (x ∷ without_rowid id xs) (without_rowid id xs)) less ∙ ap (λ l. x ∷ l) (more one)

pub one_of_map : {A B : Type 0} (f : A → B) (xs : List A) (y : B) → map f xs ≡ y ∷ [] → (x : A) × (xs ≡ x ∷ []) × (f x ≡ y)
one_of_map f [] y h = absurd (let e = h in cc)
one_of_map f (x ∷ []) y h = (x, refl, cc)
one_of_map f (x ∷ z ∷ xs) y h = absurd (let e = ap length h in omega (arith, e))

pub int_at : (v : Value) → IsTrue (is_int v) → (m : ℤ) × (v ≡ Int m)
int_at Null h = absurd (true≢false (sym h))
int_at (Int m) h = (m, refl)
int_at (Real x) h = absurd (true≢false (sym h))
int_at (Text t) h = absurd (true≢false (sym h))
int_at (Blob b) h = absurd (true≢false (sym h))

-- ---- the tables beside the one that is changed

-- each table is this one, or has another tree
abbrev pub IsAlone : Table → List Table → Type 0
IsAlone table = AllByRecursion (λ (t : Table). (t ≡ table) ⊎ (t.tree ≢ table.tree))

pub same_tree : (n : ℕ) → (n == n) ≡ true
same_tree n = grind (arith, nat_tests)

pub other_tree : (m n : ℕ) → m ≢ n → (m == n) ≡ false
other_tree m n apart = grind (arith, nat_tests, apart)

pub carried : (ts : List Table) (table : Table) (db next : Trees) (listed : Listed) (rows : List Row) → IsAlone table ts
    → AllByRecursion (λ (t : Table). Holds db t.tree t (listed t.tree)) ts → AllByRecursion (λ (t : Table). t.tree ≢ table.tree → next t.tree ≡ db t.tree) ts
    → Holds next table.tree table rows → AllByRecursion (λ (t : Table). Holds next t.tree t (with_rows listed table.tree rows t.tree)) ts
carried [] table db next listed rows alone holds same new = tt
carried (t ∷ ts) table db next listed rows alone holds same new = (one alone.0, carried ts table db next listed rows alone.1 holds.1 same.1 new) where
  one : (t ≡ table) ⊎ (t.tree ≢ table.tree) → Holds next t.tree t (with_rows listed table.tree rows t.tree)
  one (inl is) = subst (λ (u : Table). Holds next u.tree u (with_rows listed table.tree rows u.tree)) (sym is)
      (subst (λ b. Holds next table.tree table (cond b rows (listed table.tree))) (sym (same_tree table.tree)) new)
  one (inr apart) = let kept = same.0 apart in
      subst (λ b. Holds next t.tree t (cond b rows (listed t.tree))) (sym (other_tree t.tree table.tree apart)) (record {
        same = subst (λ rs. IsPermutation (listed t.tree) (map (columns_of t) rs)) (sym kept) holds.0.same;
        numbered = subst IsNumbered (sym kept) holds.0.numbered;
      })

-- what holds of each table holds of the one at a place
pub at_place : (P : Table → Type 0) (ts : List Table) (at : ℕ) (table : Table) → slice_get ts at ≡ Some table → AllByRecursion P ts → P table
at_place P [] at table is all = absurd (let e = is in cc)
at_place P (t ∷ ts) zero table is all = let same : t ≡ table = cc in subst P same all.0
at_place P (t ∷ ts) (suc at) table is all = at_place P ts at table is all.1
