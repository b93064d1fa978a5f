-- The upsert of one row, by the rows that the tables hold.
use Rattle.one_table.proofs.Insertion.{IsPlace, went, same_value}
use Rattle.one_table.proofs.OneTable.{over_table, passes, shows_of}
use Rattle.one_table.proofs.Rowed.{plainly, carried, at_place, put_new, first_fresh, int_at}
use Rattle.one_table.specs.Common.{Equal, Less, Enforced, Compare, Eq, Binary, InsertOr, Does, Tally, Database}
use Rattle.one_table.specs.Common.{value_rows, Row, value_cmp, overlay, Chosen, Given, Schema, Values, Table, Term}
use Rattle.one_table.specs.Common.{IsTable, Trees, has_rowid, put_row, rowid, Value, Int, Null}
use Rattle.one_table.specs.Listing.{Holds, Lists, Listed, with_rows, columns_of, IsNumbered}
use Rattle.sqlite.proofs.Callers.{IsPlain, command_of, one_step, runs_as, statement_of}
use Rattle.sqlite.specs.Cast.{cast_row}
use Rattle.sqlite.specs.Edit.{Applies, are_fresh, edit_of, is_taken, put_all, with_rowid}
use Rattle.sqlite.specs.Listing.{understood}
use Rattle.sqlite.specs.Ops.{binary, from_truth, is_true}
use Rattle.sqlite.specs.Rows.{Clears, Judged, Puts, Task, Tries, TriesEach, Updates, Upserts, Written, nothing, shown}
use Rattle.sqlite.specs.Rows.{Meets, count_of}
use Rattle.sqlite.specs.State.{Executes, State, mode_of}
use Rattle.sqlite.specs.View.{is_int}
use Rattle.sqlite_rules.specs.Edit.{at_least, next_rowid}
use Rattle.sqlite_rules.specs.Keys.{conflicts, AreConflicts}
use Rattle.sqlite_rules.specs.Lists.{Has}
use Rattle.sqlite_rules.specs.declared.error.Refusal.{Refusal}
use Rattle.sqlite_schema.specs.declared.command.Conflict.TheVariants.{Abort}
use Rattle.sqlite_schema.specs.declared.command.Upsert.{Upsert}
use Rattle.sqlite_trees.proofs.ListLemmas.{IsPermutation-filter, filter-map}
use Rattle.sqlite_trees.proofs.TreeLemmas.{IsShaped-put_row, later_rowids}
use Rattle.sqlite_value.proofs.OrderLemmas.{value_cmp_total}
use Rattle.std.proofs.Common.{◌≡◌, ◌⊎◌, ◌++◌, inl, inr, ℕ, suc, ◌/◌, ℤ, List, [], ◌∷◌, map, filter, length, Bool, true}
use Rattle.std.proofs.Common.{false, cond, Option, Some, None, Ok, refl, sym, ap, subst, ◌∙◌, arith, IsPermutation}
use Rattle.std.proofs.Common.{append-nil, true≢false, IsTrue}
use Rattle.std.proofs.lemmas.Cmp.{tied_itself}
use Rattle.std.proofs.lemmas.List.Elements.{filter_agree}
use Rattle.std.proofs.lemmas.List.Sorted.{IsPermutation-cons, IsPermutation-map, IsPermutation-sym, IsPermutation-trans}
use Rattle.std.proofs.lemmas.List.Sorted.{length_permutation}
use Rattle.std.specs.List.{AllByRecursion}
use Rattle.std.specs.Ordering.{is_eq, is_lt}
use Rattle.one_table.proofs.Alteration as alter

-- ---- membership and tests

pub has_passing : {A : Type 0} (p : A → Bool) (xs : List A) (x : A) → Has (filter p xs) x → Has xs x
has_passing p [] x h = h
has_passing {A} p (y ∷ ys) x h = go (p y) h (has_passing p ys x) where
  go : (b : Bool) → Has (cond b (y ∷ filter p ys) (filter p ys)) x → (Has (filter p ys) x → Has ys x) → Has (y ∷ ys) x
  go true (inl e) rest = inl e
  go true (inr more) rest = inr (rest more)
  go false h rest = inr (rest h)

pub passing_has : {A : Type 0} (p : A → Bool) (xs : List A) (x : A) → Has xs x → p x ≡ true → Has (filter p xs) x
passing_has p [] x h passed = h
passing_has {A} p (y ∷ ys) x h passed = go (p y) refl h (λ more. passing_has p ys x more passed) where
  go : (b : Bool) → p y ≡ b → Has (y ∷ ys) x → (Has ys x → Has (filter p ys) x) → Has (cond b (y ∷ filter p ys) (filter p ys)) x
  go true is (inl e) rest = inl e
  go true is (inr more) rest = inr (rest more)
  go false is (inl e) rest = absurd (true≢false (sym passed ∙ ap p e ∙ is))
  go false is (inr more) rest = rest more

-- SQL's = on the number of a row
abbrev pub has_number : ℤ → Row → Bool
has_number id r = is_true (binary (Compare Eq Binary) (rowid r) (Int id))

truth_of : (b : Bool) → is_true (from_truth (Some b)) ≡ b
truth_of true = refl
truth_of false = refl

same_number : (m n : ℤ) → is_true (binary (Compare Eq Binary) (Int m) (Int n)) ≡ is_eq (value_cmp (Int m) (Int n))
unfolding binary
same_number m n = truth_of _

-- one row has the number of a row
pub one_numbered : (id : ℤ) (r : Row) (xs : List Row) → rowid r ≡ Int id → IsTable xs → AllByRecursion (λ x. (m : ℤ) × (rowid x ≡ Int m)) xs → Has xs r
    → filter (has_number id) xs ≡ r ∷ []
one_numbered id r [] at rising ints has = absurd has
one_numbered id r (x ∷ xs) at rising ints (inl same) =
    let tied : value_cmp (rowid x) (Int id) ≡ Equal = ap (λ v. value_cmp v (Int id)) (ap rowid (sym same) ∙ at) ∙ tied_itself value_cmp_total (Int id) in
    let number : has_number id x ≡ is_eq (value_cmp (rowid x) (Int id)) =
    subst (λ v. is_true (binary (Compare Eq Binary) v (Int id)) ≡ is_eq (value_cmp v (Int id))) (sym ints.0.1) (same_number ints.0.0 id) in
    let first : has_number id x ≡ true = number ∙ ap is_eq tied in let later = later_rowids (Int id) x xs (ap is_lt tied) rising.0 in
    let rest : filter (has_number id) xs ≡ [] = none_later xs ints.1 later in
    ap (λ b. cond b (x ∷ filter (has_number id) xs) (filter (has_number id) xs)) first ∙ ap (λ l. x ∷ l) rest ∙ ap (λ y. y ∷ []) (sym same) where
      none_later : (ys : List Row) → AllByRecursion (λ y. (m : ℤ) × (rowid y ≡ Int m)) ys → AllByRecursion (λ y. has_rowid id y ≡ false) ys
          → filter (has_number id) ys ≡ []
      none_later [] ints later = refl
      none_later (y ∷ ys) ints later =
          let number : has_number id y ≡ is_eq (value_cmp (rowid y) (Int id)) =
          subst (λ v. is_true (binary (Compare Eq Binary) v (Int id)) ≡ is_eq (value_cmp v (Int id))) (sym ints.0.1) (same_number ints.0.0 id) in
          ap (λ b. cond b (y ∷ filter (has_number id) ys) (filter (has_number id) ys)) (number ∙ later.0) ∙ none_later ys ints.1 later.1
one_numbered id r (x ∷ xs) at rising ints (inr more) =
    let less : value_cmp (rowid x) (Int id) ≡ Less = ap (value_cmp (rowid x)) (sym at) ∙ above xs rising.0 more in
    let number : has_number id x ≡ is_eq (value_cmp (rowid x) (Int id)) =
    subst (λ v. is_true (binary (Compare Eq Binary) v (Int id)) ≡ is_eq (value_cmp v (Int id))) (sym ints.0.1) (same_number ints.0.0 id) in
    ap (λ b. cond b (x ∷ filter (has_number id) xs) (filter (has_number id) xs)) (number ∙ ap is_eq less) ∙ one_numbered id r xs at rising.1 ints.1 more where
      above : (ys : List Row) → AllByRecursion (λ y. value_cmp (rowid x) (rowid y) ≡ Less) ys → Has ys r → value_cmp (rowid x) (rowid r) ≡ Less
      above [] all has = absurd has
      above (y ∷ ys) all (inl same) = ap (λ z. value_cmp (rowid x) (rowid z)) same ∙ all.0
      above (y ∷ ys) all (inr more) = above ys all.1 more

module _ (schema : Schema) (at : ℕ) (t : Table) (there : IsPlace schema at t) (is_tree : (db : Trees) → overlay db [] t.tree ≡ db t.tree) (terms : List Term)
    (width : ℕ) (target : List ℕ) (tests shows : List Term)
    (test : Row → Bool) where
  abbrev table : Table
  table = plainly t

  abbrev clause : Upsert
  clause = record { target = Some target; update = Some (record { lets = []; body = over_table t.tree tests shows [] }) }

  abbrev task : Option ℕ → Row → Task
  task limit params = record { limit = limit; keys = Enforced; schema = schema; table = table; params = params }

  -- what follows for the table from the row that is put: how it is stored, which rows it meets, and what becomes of the one that it meets
  pub record Suits (params vals after : Row) : Type 0 where
    pub source : value_rows params width (length terms / width) terms ≡ (Null ∷ vals) ∷ []
    pub unnumbered : cast_row table (Null ∷ vals) ≡ Null ∷ vals
    pub stored : (id : ℤ) → cast_row table (Int id ∷ vals) ≡ Int id ∷ vals
    pub columns : (id : ℤ) → columns_of table (Int id ∷ vals) ≡ after
    pub meets : (id : ℤ) (r : Row) → conflicts (Some target) schema.indexes table (Int id ∷ vals) r ≡ test (columns_of table r)
    pub passes_is : (id k : ℤ) (r : Row) → passes tests (params ++ Int id ∷ shown table (Int k ∷ vals)) r ≡ has_number id r

  abbrev pub Makes : Row → Row → Row → Row → Type 0
  Makes params vals before after = (id k : ℤ) (r : Row) → rowid r ≡ Int id → columns_of table r ≡ before
      → (source : Row) × (tail : Row) × (shows_of shows (params ++ Int id ∷ shown table (Int k ∷ vals)) r ≡ Int id ∷ source)
      × (cast_row table source ≡ Int id ∷ tail) × (columns_of table (Int id ∷ tail) ≡ after)

  -- a row of the same key stands, or none does
  abbrev pub Splits : Row → Row → Row → List Row → List Row → Type 0
  Splits params vals after listed rest =
      IsPermutation listed rest ⊎ ((before : Row) × IsPermutation listed (before ∷ rest) × (test before ≡ true) × Makes params vals before after)

  abbrev Holding : Listed → Trees → Type 0
  Holding listed db = AllByRecursion (λ (u : Table). Holds db u.tree u (listed u.tree)) schema.tables

  abbrev Done : Listed → List Row → Trees → Type 0
  Done listed rows db = AllByRecursion (λ (u : Table). Holds db u.tree u (with_rows listed t.tree rows u.tree)) schema.tables

  -- no row of the key stands, so the new one joins them
  put_part : (limit : Option ℕ) (params vals after : Row) (rest : List Row) (db : Trees) (k : ℤ) (w : Written) (listed : Listed) → Suits params vals after
      → Holding listed db → Holds db t.tree table (listed t.tree)
      → IsPermutation (listed t.tree) rest → Puts (task limit params) (Int k ∷ vals) db (Ok w) → Done listed (after ∷ rest) w.trees
  put_part limit params vals after rest db k w listed s all holds split h = let edit = edit_of db table [] Given 0 ((Int k ∷ vals) ∷ []) in
      let written = went h in
      let applies0 = one_step schema Enforced db written.0 edit (there.idle [] edit.news) written.1 in
      let trees = ap (λ (it : Written). it.trees) (same_value written.2) in
      let applies : Applies schema Enforced db edit w.trees = subst (Applies schema Enforced db edit) (sym trees) applies0 in
      let new : Row = Int k ∷ vals in let news : edit.news ≡ new ∷ [] = ap (λ x. x ∷ []) (s.stored k) in
      let now : w.trees t.tree ≡ put_row new (db t.tree) = applies.rows ∙ ap (λ ns. put_all (db t.tree) ns) news in
      let free : is_taken (db t.tree) new ≡ false = first_fresh (db t.tree) [] new (ap (are_fresh (db t.tree)) (sym news) ∙ applies.fresh) in
      let moved = IsPermutation-map (columns_of table) _ _ (subst (IsPermutation (new ∷ db t.tree)) (sym now) (put_new new (db t.tree) free)) in
      let listed_is : IsPermutation (after ∷ rest) (after ∷ map (columns_of table) (db t.tree)) =
      IsPermutation-cons after _ _ (IsPermutation-trans _ _ _ (IsPermutation-sym _ _ split) holds.same) in
      carried schema.tables table db w.trees listed (after ∷ rest) there.alone all applies.tables (record {
        same = IsPermutation-trans _ _ _ listed_is
            (subst (λ c. IsPermutation (c ∷ map (columns_of table) (db t.tree)) (map (columns_of table) (w.trees t.tree))) (s.columns k) moved);
        numbered = subst IsNumbered (sym now) (IsShaped-put_row new (db t.tree) refl holds.numbered);
      })

  each_int : (xs : List Row) → AllByRecursion (λ x. IsTrue (is_int (rowid x))) xs → AllByRecursion (λ x. (m : ℤ) × (rowid x ≡ Int m)) xs
  each_int [] h = tt
  each_int (x ∷ xs) h = (int_at (rowid x) h.0, each_int xs h.1)

  only_has : (x y : Row) → Has (x ∷ []) y → y ≡ x
  only_has x y (inl e) = e
  only_has x y (inr h) = absurd h

  -- what the clause does
  upserted_part : (limit : Option ℕ) (params vals after : Row) (rest : List Row) (db : Trees) (k : ℤ) (w : Written) (listed : Listed) → Suits params vals after
      → Holding listed db → Holds db t.tree table (listed t.tree) → filter test rest ≡ [] → Splits params vals after (listed t.tree) rest
      → Upserts (task limit params) Abort (Int k ∷ vals) db (clause ∷ []) (Ok w) → Done listed (after ∷ rest) w.trees
  upserted_part limit params vals after rest db k w listed s all holds none split h = go h.0 h.1 h.2 split where
    cleared : (found : List Row) → Clears (task limit params) Abort (Int k ∷ vals) db found (Ok w) → Puts (task limit params) (Int k ∷ vals) db (Ok w)
    cleared [] c = c
    cleared (x ∷ more) c = c

    go : (found : List Row) → AreConflicts (Some target) schema.indexes table (db t.tree) (Int k ∷ vals) found
        → Meets (task limit params) (Upserts (task limit params) Abort (Int k ∷ vals) db []) (Int k ∷ vals) db clause found (Ok w)
        → Splits params vals after (listed t.tree) rest → Done listed (after ∷ rest) w.trees
    go [] are meets (inl same) = put_part limit params vals after rest db k w listed s all holds same (cleared meets.0 meets.2)
    go [] are meets (inr (before, same, here, makes)) =
        let it = alter.stands schema at t there is_tree tests shows test db (listed t.tree) before rest holds same here none in
        let has : Has (db t.tree) it.row =
        has_passing (λ r. test (columns_of table r)) (db t.tree) it.row (subst (λ xs. Has xs it.row) (sym it.one) (inl refl)) in
        absurd (are.complete it.row has (s.meets k it.row ∙ ap test it.columns ∙ here))
    go (x ∷ more) are meets (inl same) = let r = are.sound x (inl refl) in
        let passed : test (columns_of table r.0) ≡ true = sym (s.meets k r.0) ∙ r.2 in
        let has = passing_has (λ y. test (columns_of table y)) (db t.tree) r.0 r.1 passed in
        let moved : IsPermutation [] (filter test (map (columns_of table) (db t.tree))) = subst (λ xs. IsPermutation xs (filter test
        (map (columns_of table) (db t.tree)))) none (IsPermutation-filter test _ _ (IsPermutation-trans _ _ _ (IsPermutation-sym _ _ same) holds.same)) in
        absurd (empty_has (filter (λ y. test (columns_of table y)) (db t.tree)) r.0
        (sym (length_map _) ∙ ap length (sym (filter-map test (columns_of table) (db t.tree))) ∙ length_permutation [] _ moved) has)
      where
        empty_has : (xs : List Row) (y : Row) → length xs ≡ 0 → Has xs y → ⊥
        empty_has [] y len has = has
        empty_has (z ∷ xs) y len has = absurd (omega (arith, len))

        length_map : (xs : List Row) → length (map (columns_of table) xs) ≡ length xs
        length_map [] = refl
        length_map (z ∷ xs) = ap suc (length_map xs)
    go (x ∷ more) are meets (inr (before, same, here, makes)) =
        let it = alter.stands schema at t there is_tree tests shows test db (listed t.tree) before rest holds same here none in
        let r = are.sound x (inl refl) in
        let passed : test (columns_of table r.0) ≡ true = sym (s.meets k r.0) ∙ r.2 in
        let has = passing_has (λ y. test (columns_of table y)) (db t.tree) r.0 r.1 passed in
        let row_is : r.0 ≡ it.row = only_has it.row r.0 (subst (λ xs. Has xs r.0) it.one has) in
        let number : rowid x ≡ Int it.id = ap rowid r.3 ∙ ap rowid row_is ∙ it.numbered in
        let given = params ++ Int it.id ∷ shown table (Int k ∷ vals) in
        let updates = subst (λ (v : Value). Updates (task limit params) (record { lets = []; body = over_table t.tree tests shows [] })
        (params ++ v ∷ shown table (Int k ∷ vals)) db (Ok w)) number meets in
        let wrote = alter.updated_part schema at t there is_tree tests shows limit params given db w updates in
        let ints = each_int (db t.tree) holds.numbered.1 in
        let has_it : Has (db t.tree) it.row =
        has_passing (λ y. test (columns_of table y)) (db t.tree) it.row (subst (λ xs. Has xs it.row) (sym it.one) (inl refl)) in
        let one : filter (passes tests given) (db t.tree) ≡ it.row ∷ [] = filter_agree _ _ (s.passes_is it.id k) (db t.tree)
        ∙ one_numbered it.id it.row (db t.tree) it.numbered holds.numbered.0 ints has_it in
        let made = makes it.id k it.row it.numbered it.columns in
        let rep = alter.one_changed schema at t there is_tree tests shows db given w wrote it.row made.0 made.1 it.id one made.2 made.3 in
        alter.lists_after schema at t there is_tree tests shows test db listed before after rest w made.1 it holds.numbered all made.4 rep

  -- a text that upserts one row
  module _ (text : List ℕ) (command : command_of (understood schema text) ≡ InsertOr at Abort (Values terms width) (clause ∷ []))
      (plain : IsPlain (understood schema text)) where
    tried : (limit : Option ℕ) (params vals after : Row) (rest : List Row) (db : Trees) (k : ℤ) (w : Written) (listed : Listed) → Suits params vals after
        → Holding listed db → Holds db t.tree table (listed t.tree) → filter test rest ≡ [] → Splits params vals after (listed t.tree) rest
        → Tries (task limit params) Abort (clause ∷ []) (Int k ∷ vals) db (Ok w) → Done listed (after ∷ rest) w.trees
    tried limit params vals after rest db k w listed s all holds none split (inl h) = absurd (let e = h.1 in cc)
    tried limit params vals after rest db k w listed s all holds none split (inr h) = judged h.0 h.2 where
      judged : (verdict : Option Refusal) → Judged (task limit params) Abort (clause ∷ []) (Int k ∷ vals) db verdict (Ok w) → Done listed (after ∷ rest) w.trees
      judged None h = upserted_part limit params vals after rest db k w listed s all holds none split h
      judged (Some why) h = absurd (let e = h in cc)

    pub upserted : (old new : State) (params vals after : Row) (count : ℕ) (listed : Listed) (rest : List Row) → Lists schema old.now listed
        → Suits params vals after → filter test rest ≡ [] → Splits params vals after (listed t.tree) rest → Executes text params old new (Ok count)
        → Lists schema new.now (with_rows listed t.tree (after ∷ rest))
    upserted old new params vals after count listed rest st s none split h = let db = old.now.trees in
        let w = runs_as text params old new schema st.schema_is _ command plain count h in
        let whole = statement_of text (understood schema text) in
        let does = subst (λ sc. Does old.step_limit (mode_of old) params (record old.now { schema = sc }) whole None
        (InsertOr at Abort (Values terms width) (clause ∷ [])) (Ok (w.tally, new.now))) st.schema_is w.changed in
        let done = went (rw there.listed at does) in
        let now = ap (λ (p : Tally × Database). p.1) (same_value (went (went done.2).2).2) in
        let given = went done.1 in let counter = went given.2 in
        let tries = went counter.2 in let counts = went tries.2 in
        let rows_are : given.0 ≡ (Null ∷ vals) ∷ [] = given.1.1 ∙ ap (λ p. value_rows p width (length terms / width) terms) (append-nil params) ∙ s.source in
        let each =
        went (subst (λ rs. TriesEach (task old.step_limit params) Abort (clause ∷ []) rs (count_of counter.0) (nothing db) (Ok tries.0)) rows_are tries.1) in
        let k = at_least Chosen (next_rowid (db t.tree)) in
        let new_is : with_rowid Chosen (db t.tree) (cast_row table (Null ∷ vals)) ≡ Int k ∷ vals = ap (with_rowid Chosen (db t.tree)) s.unnumbered in
        let try = subst (λ (r : Row). Tries (task old.step_limit params) Abort (clause ∷ []) r db (Ok each.0)) new_is each.1 in
        let holds : Holds db t.tree table (listed t.tree) =
        at_place (λ (u : Table). Holds db u.tree u (listed u.tree)) schema.tables at table there.listed st.tables in
        let result = tried old.step_limit params vals after rest db k each.0 listed s st.tables holds none split try in
        let trees : new.now.trees ≡ each.0.trees =
        ap (λ (d : Database). d.trees) now ∙ ap (λ (it : Written). it.trees) (same_value counts.2) ∙ same_value counts.1
        ∙ ap (λ (p : Written × ℤ). p.0.trees) (same_value each.2) in
        record {
          schema_is = ap (λ (d : Database). d.schema) now;
          sound = w.sound;
          tables = subst (Done listed (after ∷ rest)) (sym trees) result;
        }
