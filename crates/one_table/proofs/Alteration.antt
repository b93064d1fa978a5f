-- UPDATE of one row, and the upsert of one, by the rows that the tables hold.
use Rattle.one_table.proofs.Insertion.{IsPlace, went, same_value}
use Rattle.one_table.proofs.OneTable.{over_table, passes, shows_of, found}
use Rattle.one_table.proofs.Rowed.{plainly, carried, at_place, put_new, first_fresh, without_one, one_of_map, int_at}
use Rattle.one_table.specs.Common.{Enforced, Update, Does, Tally, Database, Row, overlay, Given, Schema, Table, Term}
use Rattle.one_table.specs.Common.{Trees, has_rowid, put_row, rowid, without_rowid, is_int, Int, Null}
use Rattle.one_table.specs.Listing.{Holds, Lists, Listed, with_rows, columns_of, IsNumbered}
use Rattle.sqlite.proofs.Callers.{IsPlain, command_of, one_permutation, one_step, runs_as, statement_of}
use Rattle.sqlite.specs.Cast.{cast_row}
use Rattle.sqlite.specs.Edit.{Applies, are_fresh, edit_of, is_taken, put_all}
use Rattle.sqlite.specs.Listing.{understood}
use Rattle.sqlite.specs.Query.{IsAnswer, Query}
use Rattle.sqlite.specs.Rows.{Task, Updates, Written}
use Rattle.sqlite.specs.State.{Executes, State, mode_of}
use Rattle.sqlite_rules.specs.Calls.{ids_of}
use Rattle.sqlite_rules.specs.Edit.{taken_by}
use Rattle.sqlite_trees.proofs.ListLemmas.{IsPermutation-filter, all-filter, filter-map}
use Rattle.sqlite_trees.proofs.TreeLemmas.{IsShaped-filter, IsShaped-put_row}
use Rattle.std.proofs.Common.{◌≡◌, ◌≢◌, ℕ, ℤ, List, [], ◌∷◌, map, filter, Bool, true, false, cond, not, Option, None}
use Rattle.std.proofs.Common.{Ok, refl, sym, ap, subst, ◌∙◌, IsPermutation, IsTrue}
use Rattle.std.proofs.lemmas.List.Elements.{filter_agree}
use Rattle.std.proofs.lemmas.List.Sorted.{IsPermutation-cons, IsPermutation-map, IsPermutation-sym, IsPermutation-trans}
use Rattle.std.specs.List.{AllByRecursion}
use Rattle.sqlite_trees.specs.declared.store.Shape.TheVariants as shape

module _ (schema : Schema) (at : ℕ) (t : Table) (there : IsPlace schema at t) (is_tree : (db : Trees) → overlay db [] t.tree ≡ db t.tree)
    (tests shows : List Term) where
  abbrev table : Table
  table = plainly t

  abbrev query : Query
  query = over_table t.tree tests shows []

  abbrev task : Option ℕ → Row → Task
  task limit params = record { limit = limit; keys = Enforced; schema = schema; table = table; params = params }

  -- what was written: the rows that passed, changed
  pub record Wrote (db : Trees) (given : Row) (w : Written) : Type 0 where
    pub rows : List Row
    pub same : IsPermutation (map (shows_of shows given) (filter (passes tests given) (db t.tree))) rows
    pub applies : Applies schema Enforced db (edit_of db table (ids_of rows) Given 1 rows) w.trees
    pub news : w.rows ≡ (edit_of db table (ids_of rows) Given 1 rows).news

  pub updated_part : (limit : Option ℕ) (params given : Row) (db : Trees) (w : Written)
      → Updates (task limit params) (record { lets = []; body = query }) given db (Ok w) → Wrote db given w
  updated_part limit params given db w h = let updates = went h in
      let a : IsAnswer query (overlay db []) given updates.0 = updates.1.answer Null in
      let found' = found t.tree tests shows [] (overlay db []) given updates.0 a in
      let written = went updates.2 in let edit = edit_of db table (ids_of updates.0) Given 1 updates.0 in
      let applies = one_step schema Enforced db written.0 edit (there.idle (taken_by db edit) edit.news) written.1 in
      let done = same_value written.2 in
      record {
        rows = updates.0;
        same = subst (λ ts. IsPermutation (map (shows_of shows given) (filter (passes tests given) ts)) updates.0) (is_tree db) found';
        applies = subst (Applies schema Enforced db edit) (sym (ap (λ (it : Written). it.trees) done)) applies;
        news = ap (λ (it : Written). it.rows) done;
      }

  -- where one row passed, it was taken out, and the new row stands beside the others
  pub record Replaces (db : Trees) (id : ℤ) (final : Row) (w : Written) : Type 0 where
    pub rows : IsPermutation (final ∷ without_rowid id (db t.tree)) (w.trees t.tree)
    pub numbered : IsNumbered (db t.tree) → IsNumbered (w.trees t.tree)
    pub tables : AllByRecursion (λ (u : Table). u.tree ≢ t.tree → w.trees u.tree ≡ db u.tree) schema.tables
    pub news : w.rows ≡ final ∷ []

  pub one_changed : (db : Trees) (given : Row) (w : Written) → Wrote db given w → (r source tail : Row) (id : ℤ) → filter (passes tests given) (db t.tree) ≡ r
      ∷ [] → shows_of shows given r ≡ Int id ∷ source → cast_row table source ≡ Int id ∷ tail → Replaces db id (Int id ∷ tail) w
  one_changed db given w wrote r source tail id one shown cast =
      let rows_are : wrote.rows ≡ (Int id ∷ source) ∷ [] =
      one_permutation _ _ (subst (λ xs. IsPermutation (map (shows_of shows given) xs) wrote.rows) one wrote.same) ∙ ap (λ x. x ∷ []) shown in
      let edit = edit_of db table (id ∷ []) Given 1 ((Int id ∷ source) ∷ []) in
      let applies : Applies schema Enforced db edit w.trees =
      subst (λ rs. Applies schema Enforced db (edit_of db table (ids_of rs) Given 1 rs) w.trees) rows_are wrote.applies in
      let final : Row = Int id ∷ tail in let news : edit.news ≡ final ∷ [] = ap (λ x. x ∷ []) cast in
      let left = without_rowid id (db t.tree) in
      let now : w.trees t.tree ≡ put_row final left = applies.rows ∙ ap (λ ns. put_all left ns) news in
      let free : is_taken left final ≡ false = first_fresh left [] final (ap (are_fresh left) (sym news) ∙ applies.fresh) in
      record {
        rows = subst (IsPermutation (final ∷ left)) (sym now) (put_new final left free);
        numbered = λ numbered. subst IsNumbered (sym now)
            (IsShaped-put_row final left refl (IsShaped-filter shape.Table (λ x. not (has_rowid id x)) (db t.tree) numbered));
        tables = applies.tables;
        news = wrote.news ∙ ap (λ rs. (edit_of db table (ids_of rs) Given 1 rs).news) rows_are ∙ news;
      }

  -- the row of these columns, among the rows of the table, and the others
  module _ (test : Row → Bool) where
    pub record Stands (db : Trees) (before : Row) (rest : List Row) : Type 0 where
      pub row : Row
      pub one : filter (λ r. test (columns_of table r)) (db t.tree) ≡ row ∷ []
      pub columns : columns_of table row ≡ before
      pub id : ℤ
      pub numbered : rowid row ≡ Int id
      pub others : IsPermutation rest (map (columns_of table) (without_rowid id (db t.tree)))

    pub stands : (db : Trees) (listed : List Row) (before : Row) (rest : List Row) → Holds db t.tree table listed → IsPermutation listed (before ∷ rest)
        → test before ≡ true → filter test rest ≡ [] → Stands db before rest
    stands db listed before rest holds split here none = let rows = db t.tree in
        let same : IsPermutation (before ∷ rest) (map (columns_of table) rows) = IsPermutation-trans _ _ _ (IsPermutation-sym _ _ split) holds.same in
        let only : filter test (before ∷ rest) ≡ before ∷ [] = rw here (ap (λ xs. before ∷ xs) none) in
        let one = one_permutation before (filter test (map (columns_of table) rows))
        (subst (λ xs. IsPermutation xs (filter test (map (columns_of table) rows))) only (IsPermutation-filter test _ _ same)) in
        let there = one_of_map (columns_of table) (filter (λ r. test (columns_of table r)) rows) before (sym (filter-map test (columns_of table) rows) ∙ one) in
        let ints = all-filter (λ x. IsTrue (is_int (rowid x))) (λ r. test (columns_of table r)) rows holds.numbered.1 in
        let number = int_at (rowid there.0) (subst (AllByRecursion (λ x. IsTrue (is_int (rowid x)))) there.1 ints).0 in
        let left : without_rowid number.0 rows ≡ filter (λ x. not (test (columns_of table x))) rows =
        without_one (λ r. test (columns_of table r)) number.0 there.0 rows number.1 holds.numbered.0 there.1 in
        let others : filter (λ v. not (test v)) (before ∷ rest) ≡ rest = rw here (all_pass rest none) in
        record {
          row = there.0;
          one = there.1;
          columns = there.2;
          id = number.0;
          numbered = number.1;
          others = subst (λ xs. IsPermutation rest (map (columns_of table) xs)) (sym left)
              (subst (IsPermutation rest) (filter-map (λ v. not (test v)) (columns_of table) rows) (subst (λ xs. IsPermutation xs
              (filter (λ v. not (test v)) (map (columns_of table) rows))) others (IsPermutation-filter (λ v. not (test v)) _ _ same)));
        } where
          all_pass : (xs : List Row) → filter test xs ≡ [] → filter (λ v. not (test v)) xs ≡ xs
          all_pass [] h = refl
          all_pass (x ∷ xs) h = go (test x) h (all_pass xs) where
            go : (b : Bool) → cond b (x ∷ filter test xs) (filter test xs) ≡ [] → (filter test xs ≡ [] → filter (λ v. not (test v)) xs ≡ xs)
                → cond (not b) (x ∷ filter (λ v. not (test v)) xs) (filter (λ v. not (test v)) xs) ≡ x ∷ xs
            go true h more = absurd (let e = h in cc)
            go false h more = ap (λ ys. x ∷ ys) (more h)

    -- the new row's columns in place of the old one's
    pub lists_after : (db : Trees) (listed : Listed) (before after : Row) (rest : List Row) (w : Written) (tail : Row) (there' : Stands db before rest)
        → IsNumbered (db t.tree) → AllByRecursion (λ (u : Table). Holds db u.tree u (listed u.tree)) schema.tables
        → columns_of table (Int there'.id ∷ tail) ≡ after → Replaces db there'.id (Int there'.id ∷ tail) w
        → AllByRecursion (λ (u : Table). Holds w.trees u.tree u (with_rows listed t.tree (after ∷ rest) u.tree)) schema.tables
    lists_after db listed before after rest w tail there' numbered holds is rep =
        carried schema.tables table db w.trees listed (after ∷ rest) there.alone holds rep.tables (record {
          same = IsPermutation-trans _ _ _ (subst (λ c. IsPermutation (after ∷ rest) (c ∷ map (columns_of table) (without_rowid there'.id (db t.tree))))
              (sym is) (IsPermutation-cons after _ _ there'.others)) (IsPermutation-map (columns_of table) _ _ rep.rows);
          numbered = rep.numbered numbered;
        })

    -- a text that sets the columns of one row
    module _ (text : List ℕ) (command : command_of (understood schema text) ≡ Update at (record { lets = []; body = query }))
        (plain : IsPlain (understood schema text)) where
      pub set_one : (old new : State) (params : Row) (count : ℕ) (listed : Listed) (before after : Row) (rest : List Row) → Lists schema old.now listed
          → ((r : Row) → passes tests params r ≡ test (columns_of table r)) → IsPermutation (listed t.tree) (before ∷ rest) → test before ≡ true
          → filter test rest ≡ [] → ((id : ℤ) (r : Row) → rowid r ≡ Int id → columns_of table r ≡ before → (source : Row) × (tail : Row)
          × (shows_of shows params r ≡ Int id ∷ source) × (cast_row table source ≡ Int id ∷ tail) × (columns_of table (Int id ∷ tail) ≡ after))
          → Executes text params old new (Ok count) → Lists schema new.now (with_rows listed t.tree (after ∷ rest))
      set_one old new params count listed before after rest st passes_is split here none makes h = let db = old.now.trees in
          let w = runs_as text params old new schema st.schema_is _ command plain count h in
          let whole = statement_of text (understood schema text) in
          let does = subst (λ s. Does old.step_limit (mode_of old) params (record old.now { schema = s }) whole None
          (Update at (record { lets = []; body = query })) (Ok (w.tally, new.now))) st.schema_is w.changed in
          let done = went (rw there.listed at does) in
          let now = ap (λ (p : Tally × Database). p.1) (same_value (went (went done.2).2).2) in
          let wrote = updated_part old.step_limit params params db done.0 done.1 in
          let holds : Holds db t.tree table (listed t.tree) =
          at_place (λ (u : Table). Holds db u.tree u (listed u.tree)) schema.tables at table there.listed st.tables in
          let it = stands db (listed t.tree) before rest holds split here none in
          let one : filter (passes tests params) (db t.tree) ≡ it.row ∷ [] = filter_agree _ _ passes_is (db t.tree) ∙ it.one in
          let made = makes it.id it.row it.numbered it.columns in
          let rep = one_changed db params done.0 wrote it.row made.0 made.1 it.id one made.2 made.3 in
          record {
            schema_is = ap (λ (d : Database). d.schema) now;
            sound = w.sound;
            tables = subst (λ (d : Database). AllByRecursion (λ (u : Table). Holds d.trees u.tree u (with_rows listed t.tree (after ∷ rest) u.tree))
                schema.tables) (sym now) (lists_after db listed before after rest done.0 made.1 it holds.numbered st.tables made.4 rep);
          }
