-- What a query that counts the rows of a table shows.
use Rattle.pawn_tables.proofs.Basics.{length-map, filter_agree, length_permutation, IsPermutation-filter, filter-map}
use Rattle.pawn_tables.proofs.Basics.{around, gathered, over_table, passes, Asks, overlay}
use Rattle.pawn_tables.specs.Common.{AllZip, Binary, Row, Schema, Shown, State, Table, Env, Term, lit, Trees, Null}
use Rattle.pawn_tables.specs.Common.{Holds, columns_of}
use Rattle.pawn_tables.specs.Heads.{most_counted, number_cells}
use Rattle.sqlite.proofs.Callers.{reads_as}
use Rattle.sqlite.specs.Query.{Query, IsAnswer}
use Rattle.sqlite.specs.Term.{eval}
use Rattle.sqlite_sql.proofs.AggregateLemmas.{only_one}
use Rattle.sqlite_sql.specs.Group.{Grouping, IsSummary, value_over}
use Rattle.sqlite_sql.specs.Query.{matches}
use Rattle.sqlite_sql.specs.declared.aggregate.AggregateOp.TheVariants.{CountRows}
use Rattle.sqlite_tied.specs.Listing.{counting}
use Rattle.std.proofs.Common.{◌≡◌, ℕ, min, List, [], ◌∷◌, length, map, filter, Bool, false, sym, ap, ◌∙◌, IsPermutation}
use Rattle.std.proofs.Common.{Some}

-- how many rows of a table pass
abbrev pub how_many : ℕ → List Term → Query
how_many t tests = counting (over_table t tests [] [])

abbrev pub count_of : ℕ → Row
count_of n = number_cells (min n most_counted)

abbrev only : Grouping
only =
    record { keys = []; collations = []; aggregates = record { op = CountRows; distinct = false; collation = Binary; argument = lit Null } ∷ []; having = [] }

module _ (all order : List Env) (same : IsPermutation all order) where
  one_value : (vs : Row) → AllZip (λ a v. value_over order a ≡ Some v) only.aggregates vs → vs ≡ count_of (length all)
  one_value [] k = absurd k
  one_value (v ∷ u ∷ vs) k = absurd k.1
  one_value (v ∷ []) k = let many : length (map (eval (lit Null)) order) ≡ length all = length-map order _ ∙ length_permutation all order same in
      ap (λ x. x ∷ []) (let e = k.0 in cc) ∙ ap count_of many

  one_row : (rows : List Row) → AllZip (IsSummary only) (order ∷ []) rows → rows ≡ count_of (length all) ∷ []
  one_row [] h = absurd h
  one_row (r ∷ x ∷ rows) h = absurd h.1
  one_row (r ∷ []) h = ap (λ v. v ∷ []) (h.0.2 ∙ one_value h.0.0 h.0.1)

count_answer : (t : ℕ) (tests : List Term) (db : Trees) (params : Row) (rows : List Row) (all : List Env)
    → matches db tests (over_table t tests [] []).from (params ∷ []) ≡ all → IsAnswer (how_many t tests) db params rows → rows ≡ count_of (length all) ∷ []
count_answer t tests db params rows all matched answer = let made = rw matched at answer.grouped in
    let row = one_row all made.grouping.0 made.grouping.1 made.rows (rw made.grouping.2 at made.summaries) in
    let kept = rw (made.having, row) at answer.distinct in let ordered = only_one _ answer.ordered (rw kept at answer.same) in
    rw ordered at answer.shown

-- by the rows that SELECT * returns
module _ (schema : Schema) (tree : ℕ) (is_tree : (db : Trees) → overlay db [] tree ≡ db tree) (table : Table) (tests : List Term) (params : Row)
    (test : Row → Bool)
    (passes_is : (r : Row) → passes tests params r ≡ test (columns_of table r)) where
  pub shown_count : (text : List ℕ) (names : List (List ℕ)) → Asks schema text (how_many tree tests) names → (old new : State) (listed rows : List Row)
      → old.now.schema ≡ schema → Holds old.now.trees tree table listed → Shown text params old new rows → rows ≡ count_of (length (filter test listed)) ∷ []
  shown_count text names is old new listed rows has holds shown = let db = old.now.trees in
      let read = reads_as text params old new schema has _ is.0 is.2 is.1 rows shown in
      let many : length (map (around params) (filter (passes tests params) (db tree))) ≡ length (filter test listed) =
      length-map _ (around params) ∙ ap length (filter_agree _ _ passes_is (db tree)) ∙ sym (length-map _ (columns_of table))
      ∙ ap length (sym (filter-map test (columns_of table) (db tree))) ∙ length_permutation _ _ (IsPermutation-filter test _ _ holds.same) in
      count_answer tree tests (overlay db []) params rows _ (gathered (passes tests params) (around params) (overlay db [] tree)
      ∙ ap (λ rs. map (around params) (filter (passes tests params) rs)) (is_tree db)) (read.answer Null) ∙ ap (λ n. count_of n ∷ []) many
