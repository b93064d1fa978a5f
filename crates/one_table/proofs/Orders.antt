-- The result of a query on one table that is sorted by several columns.
use Rattle.one_table.proofs.OneTable.{around, few_of_table, found_few, passes, shows_of}
use Rattle.one_table.proofs.Texts.{Asks}
use Rattle.one_table.specs.Common.{Binary, Key, Less, Null, Row, Schema, Table, Term, Trees, col, overlay}
use Rattle.one_table.specs.Common.{eval_all}
use Rattle.one_table.specs.Listing.{Holds, columns_of}
use Rattle.sqlite.proofs.Callers.{reads_as}
use Rattle.sqlite.specs.Query.{IsAnswer, Output, output, output_cmp}
use Rattle.sqlite.specs.State.{Shown, State}
use Rattle.sqlite.specs.Tree.{IsAscending}
use Rattle.sqlite_sql.specs.Query.{key_cmp}
use Rattle.sqlite_trees.proofs.ListLemmas.{IsPermutation-filter, ascending-map, filter-map, map-map}
use Rattle.std.proofs.Common.{◌≡◌, ℕ, List, [], ◌∷◌, map, filter, take, Bool, false, sym, ap, subst, ◌∙◌}
use Rattle.std.proofs.Common.{IsPermutation}
use Rattle.std.proofs.lemmas.List.Elements.{filter_agree}
use Rattle.std.proofs.lemmas.List.Sorted.{IsPermutation-map, IsPermutation-sym}

-- in the order of two columns
abbrev pub by_columns : ℕ → ℕ → List (Term × Key)
by_columns first second =
    (col 1 first, record { collation = Binary; descending = false }) ∷ (col 1 second, record { collation = Binary; descending = false }) ∷ []

module _ (schema : Schema) (tree : ℕ) (is_tree : (db : Trees) → overlay db [] tree ≡ db tree) (table : Table) (tests shows : List Term) (params : Row)
    (test : Row → Bool) (cells : Row → Row) (passes_is : (r : Row) → passes tests params r ≡ test (columns_of table r))
    (shows_is : (r : Row) → shows_of shows params r ≡ cells (columns_of table r)) (order : List (Term × Key)) (keys : Row → Row)
    (keys_are : (r : Row) → eval_all (map (λ (k : Term × Key). k.0) order) (around params r) ≡ keys (columns_of table r)) where
  abbrev output_of : Row → Output
  output_of v = (keys v, cells v)

  -- rows that rise in this order
  abbrev pub RiseBy : List Row → Type 0
  RiseBy = IsAscending (λ a b. key_cmp 0 (map (λ (k : Term × Key). k.1) order) (keys a) (keys b) ≡ Less)

  -- so many of the first of them
  pub shown_few_by : (most : ℕ) (text : List ℕ) (names : List (List ℕ)) → Asks schema text (few_of_table most tree tests shows order) names
      → (old new : State) (listed rows : List Row) → old.now.schema ≡ schema → Holds old.now.trees tree table listed → RiseBy (filter test listed)
      → Shown text params old new rows → rows ≡ take most (map cells (filter test listed))
  shown_few_by most text names is old new listed rows has holds up shown = let db = old.now.trees in
      let q = few_of_table most tree tests shows order in
      let read = reads_as text params old new schema has _ is.0 is.2 is.1 rows shown in
      let a : IsAnswer q (overlay db []) params rows = read.answer Null in let xs = map output_of (filter test listed) in
      let outputs : map (λ r. output q (around params r)) (filter (passes tests params) (db tree)) ≡ map output_of (filter test (map (columns_of table)
      (db tree))) = (λ i. map (λ r. (keys_are r i, shows_is r i)) (filter (passes tests params) (db tree))) ∙ ap (map (λ r. output_of (columns_of table r)))
      (filter_agree _ _ passes_is (db tree)) ∙ sym (map-map output_of (columns_of table) _) ∙ ap (map output_of) (sym (filter-map test (columns_of table)
      (db tree))) in
      let same : IsPermutation xs (map (λ r. output q (around params r)) (filter (passes tests params) (overlay db [] tree))) =
      subst (IsPermutation xs) (sym (ap (λ ts. map (λ r. output q (around params r)) (filter (passes tests params) ts)) (is_tree db) ∙ outputs))
      (IsPermutation-map output_of _ _ (IsPermutation-filter test _ _ holds.same)) in
      let rising = ascending-map (λ x y. output_cmp q x y ≡ Less) output_of (filter test listed) up in
      found_few most tree tests shows order (overlay db []) params rows a xs (IsPermutation-sym _ _ same) rising
      ∙ ap (take most) (map-map (λ (o : Output). o.1) output_of _)
