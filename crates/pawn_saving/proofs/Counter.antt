-- The counter of rows goes up.
use Rattle.one_table.proofs.Found.{shown_listed}
use Rattle.one_table.proofs.Returning.{row_returned}
use Rattle.pawn_saving.proofs.Basics.{same_value, went, shows_of, at_place, cast_int, cast_whole, swapped}
use Rattle.pawn_saving.proofs.OurTables.{under_same}
use Rattle.pawn_saving.proofs.Places.{meta_place}
use Rattle.pawn_saving.proofs.WriteTexts.{ADD_ROWS, count_tests, count_shows, count_returns, READ_LIMIT, limit_tests}
use Rattle.pawn_saving.proofs.WriteTexts.{limit_shows, texts}
use Rattle.pawn_saving.specs.Common.{Returning, Enforced, Add, Arith, cast_row, Update, Does, Tally, Database}
use Rattle.pawn_saving.specs.Common.{with_rows, ListsOurs}
use Rattle.pawn_tables.proofs.Basics.{nat_tests, over_table}
use Rattle.pawn_tables.proofs.OneHost.{is_limit, limit_alone}
use Rattle.pawn_tables.specs.Common.{AllByRecursion, list_all, Index, Compare, Eq, Binary, understood, binary, is_true}
use Rattle.pawn_tables.specs.Common.{Row, column, value_cmp, Shown, State, Table, Trees, Int, Text, Holds, Listed}
use Rattle.pawn_tables.specs.Meta.{meta_row, meta_rows, other_rows}
use Rattle.pawn_tables.specs.Ours.{with_indexes}
use Rattle.pawn_tables.specs.Schema.{keep_schema, meta, meta_tree}
use Rattle.sqlite.proofs.Callers.{one_permutation, statement_of}
use Rattle.sqlite.specs.Does.{Concludes, Shows as ShowsEach}
use Rattle.sqlite.specs.Rows.{Task, Written}
use Rattle.sqlite.specs.State.{QueriesRow, mode_of}
use Rattle.sqlite.specs.declared.run.Mode.{Mode}
use Rattle.std.proofs.Common.{◌≡◌, ◌++◌, ℕ, ℤ, Option, ◌+◌, ◌<◌, ◌^◌, pos, List, [], ◌∷◌, map, filter, get_or, codes}
use Rattle.std.proofs.Common.{Bool, true, Some, Result, Ok, Err, IfOk, refl, sym, ap, ap₂, subst, ◌∙◌, arith}
use Rattle.std.proofs.Common.{IsPermutation, slice_get, nat_lt}
use Rattle.one_table.proofs.Alteration as alter

abbrev is_rows : Row → Bool
is_rows v = list_all (λ (x : Bool). x) (is_true (binary (Compare Eq Binary) (column v 0) (Text (codes "rows"))) ∷ [])

the_first : (rows : List Row) (x row : Row) → rows ≡ x ∷ [] → slice_get rows 0 ≡ Some row → row ≡ x
the_first rows x row is first = let e : Some x ≡ Some row = ap (λ l. slice_get l 0) (sym is) ∙ first in cc

counted_alone : (counted limit : ℕ)
    → (is_rows (meta_row (codes "rows") counted) ≡ true) × (filter is_rows (meta_row (codes "schema") 3 ∷ meta_row (codes "limit") limit ∷ []) ≡ [])
unfolding binary value_cmp lib.Ieee.is_nan lib.Ieee.lt
counted_alone counted limit = (refl, refl)

sum_of : (a b : ℕ) → a + b < 2 ^ 63 → binary (Arith Add) (Int (pos a)) (Int (pos b)) ≡ Int (pos (a + b))
unfolding binary
sum_of a b fits = let e : nat_lt (a + b) (2 ^ 63) ≡ true = grind (arith, nat_tests, fits) in rw e refl

-- what concludes a statement that shows the rows that it wrote: it shows them, and leaves their trees
concluded : (task : Task) (mode : Mode) (what : Returning) (w : Written) (tally : Tally) (next : Database) → Concludes task mode (Some what) w
    (Ok (tally, next)) → ShowsEach task what w.trees w.rows (Ok tally.shown) × (next ≡ record { schema = task.schema; trees = w.trees })
concluded task mode what w tally next h = let tested = went h in
    let returned = went tested.2 in let showing = went returned.1 in
    let ended = same_value returned.2 in
    let shown : tally.shown ≡ showing.0 = ap (λ (p : Tally × Database). p.0.shown) ended ∙ same_value (went showing.2).2 in
    (subst (λ rows. ShowsEach task what w.trees w.rows (Ok rows)) (sym shown) showing.1, ap (λ (p : Tally × Database). p.1) ended)

abbrev counting : List Index → Option ℕ → ℕ → Task
counting more limit by =
    record { limit = limit; keys = Enforced; schema = with_indexes more; table = record meta { tree = meta_tree }; params = Int (pos by) ∷ [] }

-- of the row of the counter the number is shown
shown_once : (more : List Index) (limit : Option ℕ) (by n : ℕ) (m : ℤ) (now : Trees) (rows : List Row)
    → ShowsEach (counting more limit by) count_returns now ((Int m ∷ meta_row (codes "rows") n) ∷ []) (Ok rows) → rows ≡ (Int (pos n) ∷ []) ∷ []
shown_once more limit by n m now rows h = let first = went h in
    let last = went first.2 in
    same_value last.2 ∙ ap₂ ◌++◌ first.1.1 (same_value last.1)

pub counts : (by : ℕ) (old new : State) (row : Row) (listed : Listed) (counted limit : ℕ) → ListsOurs old.now listed
    → listed meta_tree ≡ meta_rows counted limit → counted + by < 2 ^ 63 → QueriesRow ADD_ROWS.now (Int (pos by) ∷ []) old new (Ok row)
    → (row ≡ Int (pos (counted + by)) ∷ []) × ListsOurs new.now (with_rows listed meta_tree (meta_row (codes "rows") (counted + by) ∷ other_rows limit))
counts by old new row listed counted limit st noted fits h = let more = st.more in
    let ours = with_indexes more in let params : Row = Int (pos by) ∷ [] in
    let db = old.now.trees in let t : Table = record meta { tree = meta_tree } in
    let query = over_table meta_tree count_tests count_shows [] in
    let told = row_returned ADD_ROWS.now params old new ours st.lists.schema_is (Update 6 (record { lets = []; body = query })) count_returns
    (texts more).count_is.0 (texts more).count_is.1 (texts more).count_is.2 row h in
    let w = told.1.1 in let whole = statement_of ADD_ROWS.now (understood ours ADD_ROWS.now) in
    let does = subst (λ s. Does old.step_limit (mode_of old) params (record old.now { schema = s }) whole (Some count_returns)
    (Update 6 (record { lets = []; body = query })) (Ok (w.tally, new.now))) st.lists.schema_is w.changed in
    let done = went does in
    let end = concluded (counting more old.step_limit by) (mode_of old) count_returns done.0 w.tally new.now done.2 in
    let now = end.1 in
    let wrote = alter.updated_part ours 6 t (meta_place more) (λ _. refl) count_tests count_shows old.step_limit params params db done.0 done.1 in
    let holds : Holds db meta_tree t (listed meta_tree) =
    at_place (λ (u : Table). Holds db u.tree u (listed u.tree)) keep_schema.tables 6 t refl st.lists.tables in
    let before = meta_row (codes "rows") counted in let after = meta_row (codes "rows") (counted + by) in
    let rest = other_rows limit in let alone = counted_alone counted limit in
    let split : IsPermutation (listed meta_tree) (before ∷ rest) =
    subst (λ xs. IsPermutation xs (before ∷ rest)) (sym noted) (swapped (meta_row (codes "schema") 3) before (meta_row (codes "limit") limit ∷ [])) in
    let it =
    alter.stands ours 6 t (meta_place more) (λ _. refl) count_tests count_shows is_rows db (listed meta_tree) before rest holds split alone.0 alone.1 in
    let m = it.id in let name : column it.row 1 ≡ Text (codes "rows") = let e = it.columns in cc in
    let value : column it.row 2 ≡ Int (pos counted) = let e = it.columns in cc in
    let sum = ap (λ v. binary (Arith Add) v (Int (pos by))) value ∙ sum_of counted by fits in
    let source : Row = Int m ∷ Text (codes "rows") ∷ Int (pos (counted + by)) ∷ [] in
    let shown : shows_of count_shows params it.row ≡ Int m ∷ source = λ i. it.numbered i ∷ it.numbered i ∷ name i ∷ sum i ∷ [] in
    let cast : cast_row t source ≡ Int m ∷ after = λ i. cast_whole m i ∷ Text (codes "rows") ∷ cast_int (counted + by) i ∷ [] in
    let rep = alter.one_changed ours 6 t (meta_place more) (λ _. refl) count_tests count_shows db params done.0 wrote it.row source after m it.one shown cast in
    let tables = alter.lists_after ours 6 t (meta_place more)
    (λ _. refl) count_tests count_shows is_rows db listed before after rest done.0 after it holds.numbered st.lists.tables refl rep in
    let news = subst (λ rs. ShowsEach (counting more old.step_limit by) count_returns done.0.trees rs (Ok w.tally.shown)) rep.news end.0 in
    let seen : told.0 ≡ (Int (pos (counted + by)) ∷ []) ∷ [] = told.1.2
    ∙ shown_once more old.step_limit by (counted + by) m done.0.trees w.tally.shown news in (
      the_first told.0 _ row seen told.2,
      under_same st (record {
        schema_is = ap (λ (d : Database). d.schema) now;
        sound = w.sound;
        tables = subst (λ (d : Database). AllByRecursion
            (λ (u : Table). Holds d.trees u.tree u (with_rows listed meta_tree (after ∷ rest) u.tree)) keep_schema.tables) (sym now) tables;
      }),
    )

-- the number that is read of the row
pub count_told : (x n : ℕ) (row : Row) (db : Database) (listed : Listed) (limit : ℕ) → column row 0 ≡ Int (pos x) → row ≡ Int (pos n) ∷ []
    → ListsOurs db (with_rows listed meta_tree (meta_row (codes "rows") n ∷ other_rows limit))
    → (x ≡ n) × ListsOurs db (with_rows listed meta_tree (meta_row (codes "rows") x ∷ other_rows limit))
count_told x n row db listed limit read is st = let same : x ≡ n = let e : Int (pos x) ≡ Int (pos n) = sym read ∙ ap (λ r. column r 0) is in cc in
    (same, subst (λ k. ListsOurs db (with_rows listed meta_tree (meta_row (codes "rows") k ∷ other_rows limit))) (sym same) st)

-- ---- the limit

abbrev pub value_cells : Row → Row
value_cells v = column v 1 ∷ []

pub limit_shown : (old new : State) (rows : List Row) (listed : Listed) (counted limit : ℕ) → listed meta_tree ≡ meta_rows counted limit
    → ListsOurs old.now listed → Shown READ_LIMIT.now [] old new rows → rows ≡ (Int (pos limit) ∷ []) ∷ []
limit_shown old new rows listed counted limit noted st shown = let t : Table = record meta { tree = meta_tree } in
    let holds : Holds old.now.trees meta_tree t (listed meta_tree) =
    at_place (λ (u : Table). Holds old.now.trees u.tree u (listed u.tree)) keep_schema.tables 6 t refl st.lists.tables in
    let same = shown_listed (with_indexes st.more) meta_tree (λ _. refl) t limit_tests limit_shows [] is_limit value_cells (λ r. refl)
    (λ r. refl) READ_LIMIT.now (codes "value" ∷ []) [] ((texts st.more).limit_is) old new (listed meta_tree) rows st.lists.schema_is holds shown in
    let one : map value_cells (filter is_limit (listed meta_tree)) ≡ (Int (pos limit) ∷ []) ∷ [] = ap (λ rs. map value_cells (filter is_limit rs)) noted
    ∙ ap (map value_cells) (limit_alone counted limit) in
    one_permutation _ _ (subst (λ xs. IsPermutation xs rows) one same)

-- the number that is read of its row
pub limit_told : (x limit : ℕ) (row : Row) (rows : List Row) → rows ≡ (Int (pos limit) ∷ []) ∷ [] → row ≡ get_or rows 0 row → column row 0 ≡ Int (pos x)
    → x ≡ limit
limit_told x limit row rows are is read = let first : row ≡ Int (pos limit) ∷ [] = is ∙ ap (λ rs. get_or rs 0 row) are in
    let e : Int (pos x) ≡ Int (pos limit) = sym read ∙ ap (λ r. column r 0) first in
    cc

pub if_small : {E : Type 0} (r : Result ℕ E) (x limit : ℕ) (P : Type 0) → x ≡ limit → P → IfOk r (λ n. n ≡ x) → IfOk r (λ n. (n ≡ limit) × P)
if_small (Ok n) x limit P same p is = (is ∙ same, p)
if_small (Err e) x limit P same p is = tt
