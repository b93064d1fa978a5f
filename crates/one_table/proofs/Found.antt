-- The result of a query on one table, by the rows that the table holds.
use Rattle.one_table.proofs.OneTable.{over_table, few_of_table, first_of_table, around, passes, shows_of, found}
use Rattle.one_table.proofs.OneTable.{found_few, found_all}
use Rattle.one_table.proofs.Texts.{Asks, by_column, by_column_down}
use Rattle.one_table.specs.Common.{Less, Key, Row, column, value_cmp, overlay, Schema, Table, Term, Value, Null, Trees}
use Rattle.one_table.specs.Listing.{Holds, columns_of}
use Rattle.sqlite.proofs.Callers.{reads_as}
use Rattle.sqlite.specs.Query.{IsAnswer, Output, Query, output, output_cmp}
use Rattle.sqlite.specs.State.{Shown, State}
use Rattle.sqlite.specs.Term.{eval_all, col}
use Rattle.sqlite.specs.Tree.{IsAscending}
use Rattle.sqlite_sql.specs.Query.{key_cmp}
use Rattle.sqlite_trees.proofs.ListLemmas.{IsPermutation-filter, all-append, ascending-append, ascending-map}
use Rattle.sqlite_trees.proofs.ListLemmas.{ascending_weaker, filter-map, map-map}
use Rattle.sqlite_value.proofs.OrderLemmas.{then-Equal}
use Rattle.std.proofs.Common.{◌≡◌, ℕ, List, [], ◌∷◌, map, filter, take, Bool, refl, sym, ap, subst, ◌∙◌, IsPermutation}
use Rattle.std.proofs.Common.{reverse, ◌++◌}
use Rattle.std.proofs.lemmas.List.{reverse-append}
use Rattle.std.proofs.lemmas.List.Elements.{filter_agree}
use Rattle.std.proofs.lemmas.List.Sorted.{IsPermutation-map, IsPermutation-reverse, IsPermutation-sym}
use Rattle.std.proofs.lemmas.List.Sorted.{IsPermutation-trans}
use Rattle.std.specs.List.{AllByRecursion}

-- the last of a list alone
abbrev pub last_of : {A : Type 0} → List A → List A
last_of [] = []
last_of (x ∷ []) = x ∷ []
last_of (x ∷ (y ∷ ys)) = last_of (y ∷ ys)

first_append : {A : Type 0} (xs ys : List A) (x : A) → take 1 ((xs ++ x ∷ []) ++ ys) ≡ take 1 (xs ++ x ∷ [])
first_append [] ys x = refl
first_append (z ∷ xs) ys x = refl

first_reversed : {A : Type 0} (xs : List A) → take 1 (reverse xs) ≡ last_of xs
first_reversed [] = refl
first_reversed (x ∷ []) = refl
first_reversed (x ∷ (y ∷ ys)) =
    ap (take 1) (reverse-append (x ∷ []) (y ∷ ys) ∙ ap (λ l. l ++ x ∷ []) (reverse-append (y ∷ []) ys)) ∙ first_append (reverse ys) (x ∷ []) y
    ∙ ap (take 1) (sym (reverse-append (y ∷ []) ys)) ∙ first_reversed (y ∷ ys)

first_of_map : {A B : Type 0} (f : A → B) (xs : List A) → take 1 (map f xs) ≡ map f (take 1 xs)
first_of_map f [] = refl
first_of_map f (x ∷ xs) = refl

falls : {A : Type 0} (R : A → A → Type 0) (xs : List A) → IsAscending R xs → IsAscending (λ a b. R b a) (reverse xs)
falls R [] up = tt
falls {A} R (x ∷ xs) up = subst (IsAscending (λ a b. R b a)) (sym (reverse-append (x ∷ []) xs))
    (ascending-append (λ a b. R b a) (reverse xs) (x ∷ []) (falls R xs up.1) (tt, tt) (after xs up.0)) where
      after : (ys : List A) → AllByRecursion (R x) ys → AllByRecursion (λ z. AllByRecursion (λ b. R b z) (x ∷ [])) (reverse ys)
      after [] all = tt
      after (y ∷ ys) all = subst (AllByRecursion (λ z. AllByRecursion (λ b. R b z) (x ∷ []))) (sym (reverse-append (y ∷ []) ys))
          (all-append (λ z. AllByRecursion (λ b. R b z) (x ∷ [])) (reverse ys) (y ∷ []) (after ys all.1) ((all.0, tt), tt))

-- the rows that pass, and what is shown of them, by what SELECT * shows
module _ (schema : Schema) (tree : ℕ) (is_tree : (db : Trees) → overlay db [] tree ≡ db tree) (table : Table) (tests shows : List Term) (params : Row)
    (test : Row → Bool) (cells : Row → Row) (passes_is : (r : Row) → passes tests params r ≡ test (columns_of table r))
    (shows_is : (r : Row) → shows_of shows params r ≡ cells (columns_of table r)) where
  pub by_columns : (rows : List Row) → map (shows_of shows params) (filter (passes tests params) rows) ≡ map cells (filter test (map (columns_of table) rows))
  by_columns rows =
      (λ i. map (λ r. shows_is r i) (filter (passes tests params) rows)) ∙ ap (map (λ r. cells (columns_of table r))) (filter_agree _ _ passes_is rows)
      ∙ sym (map-map cells (columns_of table) _) ∙ ap (map cells) (sym (filter-map test (columns_of table) rows))

  -- in some order
  pub shown_listed : (text : List ℕ) (names : List (List ℕ)) (order : List (Term × Key)) → Asks schema text (over_table tree tests shows order) names
      → (old new : State) (listed rows : List Row) → old.now.schema ≡ schema → Holds old.now.trees tree table listed → Shown text params old new rows
      → IsPermutation (map cells (filter test listed)) rows
  shown_listed text names order is old new listed rows has holds shown = let db = old.now.trees in
      let read = reads_as text params old new schema has _ is.0 is.2 is.1 rows shown in
      let found' = found tree tests shows order (overlay db []) params rows (read.answer Null) in
      let moved = IsPermutation-map cells _ _ (IsPermutation-filter test _ _ holds.same) in
      IsPermutation-trans _ _ _ moved (subst (λ xs. IsPermutation xs rows)
      (ap (λ xs. map (shows_of shows params) (filter (passes tests params) xs)) (is_tree db) ∙ by_columns (db tree)) found')

  module _ (place : ℕ) (key : Row → Value) (key_is : (r : Row) → column r place ≡ key (columns_of table r)) where
    abbrev pub output_of : Row → Output
    output_of v = (key v ∷ [], cells v)

    outputs : (q : Query) → (map (λ (k : Term × Key). k.0) q.order ≡ col 1 place ∷ []) → q.project ≡ shows → (rows : List Row)
        → map (λ r. output q (around params r)) (filter (passes tests params) rows) ≡ map output_of (filter test (map (columns_of table) rows))
    outputs q order project rows =
        (λ i. map (λ r. (eval_all (order i) (around params r), eval_all (project i) (around params r))) (filter (passes tests params) rows))
        ∙ (λ i. map (λ r. (key_is r i ∷ [], shows_is r i)) (filter (passes tests params) rows)) ∙ ap (map (λ r. output_of (columns_of table r)))
        (filter_agree _ _ passes_is rows) ∙ sym (map-map output_of (columns_of table) _) ∙ ap (map output_of) (sym (filter-map test (columns_of table) rows))

    abbrev pub Rises : List Row → Type 0
    Rises = IsAscending (λ a b. value_cmp (key a) (key b) ≡ Less)

    rising : (q : Query) → q.order ≡ by_column place → (xs : List Row) → Rises xs → IsAscending (λ x y. output_cmp q x y ≡ Less) (map output_of xs)
    rising q order xs up = ascending-map (λ x y. output_cmp q x y ≡ Less) output_of xs
        (ascending_weaker (λ a b. value_cmp (key a) (key b) ≡ Less) (λ a b. output_cmp q (output_of a) (output_of b) ≡ Less)
        (λ a b less. (λ i. key_cmp 0 (map (λ (k : Term × Key). k.1) (order i)) (key a ∷ []) (key b ∷ [])) ∙ then-Equal _ ∙ less) xs up)

    -- in the order of a column that rises in the list
    pub shown_in_order : (text : List ℕ) (names : List (List ℕ)) → Asks schema text (over_table tree tests shows (by_column place)) names
        → (old new : State) (listed rows : List Row) → old.now.schema ≡ schema → Holds old.now.trees tree table listed → Rises (filter test listed)
        → Shown text params old new rows → rows ≡ map cells (filter test listed)
    shown_in_order text names is old new listed rows has holds up shown = let db = old.now.trees in
        let q = over_table tree tests shows (by_column place) in
        let read = reads_as text params old new schema has _ is.0 is.2 is.1 rows shown in
        let a : IsAnswer q (overlay db []) params rows = read.answer Null in let xs = map output_of (filter test listed) in
        let same : IsPermutation xs (map (λ r. output q (around params r)) (filter (passes tests params) (overlay db [] tree))) =
        subst (IsPermutation xs) (sym (ap (λ ts. map (λ r. output q (around params r)) (filter (passes tests params) ts)) (is_tree db)
        ∙ outputs q refl refl (db tree))) (IsPermutation-map output_of _ _ (IsPermutation-filter test _ _ holds.same)) in
        found_all tree tests shows (by_column place) (overlay db []) params rows a xs (IsPermutation-sym _ _ same) (rising q refl _ up)
        ∙ map-map (λ (o : Output). o.1) output_of _

    -- so many of the first of them
    pub shown_few : (most : ℕ) (text : List ℕ) (names : List (List ℕ)) → Asks schema text (few_of_table most tree tests shows (by_column place)) names
        → (old new : State) (listed rows : List Row) → old.now.schema ≡ schema → Holds old.now.trees tree table listed → Rises (filter test listed)
        → Shown text params old new rows → rows ≡ take most (map cells (filter test listed))
    shown_few most text names is old new listed rows has holds up shown = let db = old.now.trees in
        let q = few_of_table most tree tests shows (by_column place) in
        let read = reads_as text params old new schema has _ is.0 is.2 is.1 rows shown in
        let a : IsAnswer q (overlay db []) params rows = read.answer Null in let xs = map output_of (filter test listed) in
        let same : IsPermutation xs (map (λ r. output q (around params r)) (filter (passes tests params) (overlay db [] tree))) =
        subst (IsPermutation xs) (sym (ap (λ ts. map (λ r. output q (around params r)) (filter (passes tests params) ts)) (is_tree db)
        ∙ outputs q refl refl (db tree))) (IsPermutation-map output_of _ _ (IsPermutation-filter test _ _ holds.same)) in
        found_few most tree tests shows (by_column place) (overlay db []) params rows a xs (IsPermutation-sym _ _ same) (rising q refl _ up)
        ∙ ap (take most) (map-map (λ (o : Output). o.1) output_of _)

    -- the first of them alone
    pub shown_first : (text : List ℕ) (names : List (List ℕ)) → Asks schema text (first_of_table tree tests shows (by_column place)) names
        → (old new : State) (listed rows : List Row) → old.now.schema ≡ schema → Holds old.now.trees tree table listed → Rises (filter test listed)
        → Shown text params old new rows → rows ≡ take 1 (map cells (filter test listed))
    shown_first = shown_few 1

    falling : (q : Query) → q.order ≡ by_column_down place → (xs : List Row) → IsAscending (λ a b. value_cmp (key b) (key a) ≡ Less) xs
        → IsAscending (λ x y. output_cmp q x y ≡ Less) (map output_of xs)
    falling q order xs up = ascending-map (λ x y. output_cmp q x y ≡ Less) output_of xs
        (ascending_weaker (λ a b. value_cmp (key b) (key a) ≡ Less) (λ a b. output_cmp q (output_of a) (output_of b) ≡ Less)
        (λ a b less. (λ i. key_cmp 0 (map (λ (k : Term × Key). k.1) (order i)) (key a ∷ []) (key b ∷ [])) ∙ then-Equal _ ∙ less) xs up)

    -- the last of them alone, where the highest is asked for first
    pub shown_last : (text : List ℕ) (names : List (List ℕ)) → Asks schema text (first_of_table tree tests shows (by_column_down place)) names
        → (old new : State) (listed rows : List Row) → old.now.schema ≡ schema → Holds old.now.trees tree table listed → Rises (filter test listed)
        → Shown text params old new rows → rows ≡ map cells (last_of (filter test listed))
    shown_last text names is old new listed rows has holds up shown = let db = old.now.trees in
        let q = first_of_table tree tests shows (by_column_down place) in
        let read = reads_as text params old new schema has _ is.0 is.2 is.1 rows shown in
        let a : IsAnswer q (overlay db []) params rows = read.answer Null in let found' = filter test listed in
        let xs = map output_of (reverse found') in
        let moved = IsPermutation-map output_of _ _
        (IsPermutation-trans _ _ _ (IsPermutation-sym _ _ (IsPermutation-reverse found')) (IsPermutation-filter test _ _ holds.same)) in
        let same : IsPermutation xs (map (λ r. output q (around params r)) (filter (passes tests params) (overlay db [] tree))) =
        subst (IsPermutation xs)
        (sym (ap (λ ts. map (λ r. output q (around params r)) (filter (passes tests params) ts)) (is_tree db) ∙ outputs q refl refl (db tree))) moved in
        found_few 1 tree tests shows (by_column_down place) (overlay db []) params rows a xs (IsPermutation-sym _ _ same)
        (falling q refl _ (falls (λ a b. value_cmp (key a) (key b) ≡ Less) found' up))
        ∙ ap (take 1) (map-map (λ (o : Output). o.1) output_of (reverse found')) ∙ first_of_map cells (reverse found') ∙ ap (map cells) (first_reversed found')
