-- A query on one table that shows each row once.
use Rattle.one_table.proofs.Found.{by_columns}
use Rattle.one_table.proofs.OneTable.{over_table, around, passes, shows_of, gathered}
use Rattle.one_table.proofs.Texts.{Asks}
use Rattle.one_table.specs.Common.{Ordering, Equal, Greater, Less, Row, overlay, Schema, Table, Term, Trees, Null}
use Rattle.one_table.specs.Listing.{Holds, columns_of}
use Rattle.sqlite.proofs.Callers.{reads_as}
use Rattle.sqlite.specs.Query.{IsAnswer, Output, Query, output}
use Rattle.sqlite.specs.State.{Shown, State}
use Rattle.sqlite_sql.specs.Group.{members}
use Rattle.sqlite_trees.proofs.ListLemmas.{IsPermutation-filter, all-flat_map, all-map, all-permutation, all_both}
use Rattle.sqlite_trees.proofs.ListLemmas.{all_from_map, all_weaker, map-map}
use Rattle.sqlite_trees.specs.Tree.{IsAscending}
use Rattle.sqlite_value.proofs.KeyLemmas.{collated_cmp_total}
use Rattle.sqlite_value.specs.Keys.{collated_cmp}
use Rattle.sqlite_value.specs.declared.keys.Collation.{Collation}
use Rattle.std.proofs.Common.{◌≡◌, ◌≢◌, ◌++◌, ℕ, List, [], ◌∷◌, map, filter, flat_map, Bool, true, false, refl, sym, ap}
use Rattle.std.proofs.Common.{subst, ◌∙◌, IsPermutation}
use Rattle.std.proofs.lemmas.Cmp.{eq_by_cmp_equiv}
use Rattle.std.proofs.lemmas.List.Sorted.{IsPermutation-map, IsPermutation-sym}
use Rattle.std.proofs.lemmas.Map.Keys.{IsDistinct-IsPermutation}
use Rattle.std.specs.List.{AllByRecursion, IsDistinct}
use Rattle.std.specs.Ordering.{eq_by_cmp, is_eq}

not_tied : (o : Ordering) → o ≢ Equal → is_eq o ≡ false
not_tied Less other = refl
not_tied Equal other = absurd (other refl)
not_tied Greater other = refl

-- each row once, by these collations
abbrev pub once_of_table : ℕ → List Term → List Term → List Collation → Query
once_of_table t tests shows by = record (over_table t tests shows []) { distinct = true; collations = by }

module _ (t : ℕ) (tests shows : List Term) (by : List Collation) (db : Trees) (params : Row) (rows : List Row)
    (a : IsAnswer (once_of_table t tests shows by) db params rows) where
  abbrev query : Query
  query = once_of_table t tests shows by

  abbrev passed : List Row
  passed = map (shows_of shows params) (filter (passes tests params) (db t))

  outputs_are : map (λ (o : Output). o.1) (map (output query) a.staged) ≡ passed
  outputs_are = ap (λ es. map (λ (o : Output). o.1) (map (output query) es)) (a.grouped ∙ gathered (passes tests params) (around params) (db t))
      ∙ ap (map (λ (o : Output). o.1)) (map-map _ _ _) ∙ map-map _ _ _

  -- what holds of what each row shows holds of the rows shown
  pub once_each : (P : Row → Type 0) → AllByRecursion P passed → AllByRecursion P rows
  once_each P all = let groups = a.distinct.0 in
      let every = all_from_map P (λ (o : Output). o.1) (map (output query) a.staged) (subst (AllByRecursion P) (sym outputs_are) all) in
      let shared = all-permutation (λ (o : Output). P o.1) _ _ a.distinct.1.same every in
      let kept = subst (AllByRecursion (λ (o : Output). P o.1)) (sym a.distinct.2) (all-map (λ (o : Output). P o.1) (λ g. g.0) groups (heads groups shared)) in
      subst (AllByRecursion P) (sym a.shown) (all-map P (λ (o : Output). o.1) a.ordered (all-permutation (λ (o : Output). P o.1) _ _ a.same kept)) where
        rest : (xs ys : List Output) → AllByRecursion (λ (o : Output). P o.1) (xs ++ ys) → AllByRecursion (λ (o : Output). P o.1) ys
        rest [] ys all = all
        rest (x ∷ xs) ys all = rest xs ys all.1

        heads : (gs : List (Output × List Output)) → AllByRecursion (λ (o : Output). P o.1) (flat_map members gs) → AllByRecursion (λ g. P g.0.1) gs
        heads [] all = tt
        heads (g ∷ gs) all = (all.0, heads gs (rest g.1 (flat_map members gs) all.1))

  -- what holds of each row shown, and of all that is equal to it, holds of what each row shows
  pub each_once : (P : Row → Type 0) → ((x y : Row) → collated_cmp by x y ≡ Equal → P x → P y) → AllByRecursion P rows → AllByRecursion P passed
  each_once P equal all = let groups = a.distinct.0 in
      let ordered = all_from_map P (λ (o : Output). o.1) a.ordered (subst (AllByRecursion P) a.shown all) in
      let kept = all-permutation (λ (o : Output). P o.1) _ _ (IsPermutation-sym _ _ a.same) ordered in
      let heads = all_from_map (λ (o : Output). P o.1) (λ g. g.0) groups (subst (AllByRecursion (λ (o : Output). P o.1)) a.distinct.2 kept) in
      let shared = all-flat_map (λ (o : Output). P o.1) members groups (all_both (λ g. P g.0.1) _ (λ g. AllByRecursion (λ (o : Output). P o.1) (members g))
      (λ g head alike. (head, all_weaker _ (λ (o : Output). P o.1) (λ o same. equal g.0.1 o.1 same head) g.1 alike)) groups heads a.distinct.1.alike) in
      let every = all-permutation (λ (o : Output). P o.1) _ _ (IsPermutation-sym _ _ a.distinct.1.same) shared in
      subst (AllByRecursion P) outputs_are (all-map P (λ (o : Output). o.1) (map (output query) a.staged) every)

  -- no two rows are shown that are equal
  pub once_apart : IsDistinct (eq_by_cmp (collated_cmp by)) rows
  unfolding IsDistinct
  once_apart = let heads = heads_apart a.distinct.0 a.distinct.1.apart in
      let kept = subst (IsDistinct are_alike) (sym a.distinct.2) heads in
      let ordered = IsDistinct-IsPermutation are_alike (λ x y. flips x.1 y.1) _ _ a.same kept in
      subst (IsDistinct (eq_by_cmp (collated_cmp by))) (sym a.shown) (rows_apart a.ordered ordered) where
        are_alike : Output → Output → Bool
        are_alike x y = eq_by_cmp (collated_cmp by) x.1 y.1

        flips : (x y : Row) → eq_by_cmp (collated_cmp by) x y ≡ eq_by_cmp (collated_cmp by) y x
        flips x y = (eq_by_cmp_equiv (collated_cmp_total by)).symm x y

        heads_apart : (gs : List (Output × List Output)) → IsAscending (λ g h. collated_cmp by g.0.1 h.0.1 ≢ Equal) gs
            → IsDistinct are_alike (map (λ g. g.0) gs)
        heads_apart [] apart = tt
        heads_apart (g ∷ gs) apart = (
          all-map (λ (o : Output). are_alike g.0 o ≡ false) (λ h. h.0) gs
              (all_weaker _ (λ h. are_alike g.0 h.0 ≡ false) (λ h other. not_tied _ other) gs apart.0),
          heads_apart gs apart.1,
        )

        rows_apart : (os : List Output) → IsDistinct are_alike os → IsDistinct (eq_by_cmp (collated_cmp by)) (map (λ (o : Output). o.1) os)
        rows_apart [] apart = tt
        rows_apart (o ∷ os) apart = (all-map (λ r. eq_by_cmp (collated_cmp by) o.1 r ≡ false) (λ (q : Output). q.1) os apart.0, rows_apart os apart.1)

-- by the rows that SELECT * returns
module _ (schema : Schema) (tree : ℕ) (is_tree : (db : Trees) → overlay db [] tree ≡ db tree) (table : Table) (tests shows : List Term) (by : List Collation)
    (params : Row) (test : Row → Bool) (cells : Row → Row) (passes_is : (r : Row) → passes tests params r ≡ test (columns_of table r)) (shows_is : (r : Row)
    → shows_of shows params r ≡ cells (columns_of table r)) (text : List ℕ) (names : List (List ℕ)) (is : Asks schema text (once_of_table tree tests shows by)
    names) (old new : State) (listed rows : List Row) (has : old.now.schema ≡ schema) (holds : Holds old.now.trees tree table listed)
    (shown : Shown text params old new rows) where
  answer : IsAnswer (once_of_table tree tests shows by) (overlay old.now.trees []) params rows
  answer = (reads_as text params old new schema has _ is.0 is.2 is.1 rows shown).answer Null

  passed_are : map (shows_of shows params) (filter (passes tests params) (overlay old.now.trees [] tree)) ≡ map cells
      (filter test (map (columns_of table) (old.now.trees tree)))
  passed_are = ap (λ rs. map (shows_of shows params) (filter (passes tests params) rs)) (is_tree old.now.trees)
      ∙ by_columns schema tree is_tree table tests shows params test cells passes_is shows_is (old.now.trees tree)

  moved : IsPermutation (map cells (filter test listed)) (map cells (filter test (map (columns_of table) (old.now.trees tree))))
  moved = IsPermutation-map cells _ _ (IsPermutation-filter test _ _ holds.same)

  pub shown_once_each : (P : Row → Type 0) → AllByRecursion P (map cells (filter test listed)) → AllByRecursion P rows
  shown_once_each P all = once_each tree tests shows by (overlay old.now.trees []) params rows answer P
      (subst (AllByRecursion P) (sym passed_are) (all-permutation P _ _ moved all))

  pub each_shown_once : (P : Row → Type 0) → ((x y : Row) → collated_cmp by x y ≡ Equal → P x → P y) → AllByRecursion P rows
      → AllByRecursion P (map cells (filter test listed))
  each_shown_once P equal all = all-permutation P _ _ (IsPermutation-sym _ _ moved)
      (subst (AllByRecursion P) passed_are (each_once tree tests shows by (overlay old.now.trees []) params rows answer P equal all))

  pub shown_apart : IsDistinct (eq_by_cmp (collated_cmp by)) rows
  shown_apart = once_apart tree tests shows by (overlay old.now.trees []) params rows answer
