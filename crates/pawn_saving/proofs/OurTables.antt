-- What statements write, whatever indexes the program's tables have.
use Rattle.pawn_saving.proofs.Basics.{set_one, IsPlace, inserted, shows_of, plainly, Puts, Sets}
use Rattle.pawn_saving.proofs.Differing.{set_where}
use Rattle.pawn_saving.specs.Common.{cast_row, with_rowid, Database, value_rows, overlay, Chosen, rowid, with_rows}
use Rattle.pawn_saving.specs.Common.{AreLoose, ListsOurs}
use Rattle.pawn_tables.proofs.Basics.{over_table, passes}
use Rattle.pawn_tables.specs.Common.{AllByRecursion, list_any, Index, Row, Executes, State, Table, Term, Trees, Int}
use Rattle.pawn_tables.specs.Common.{Holds, Listed, Lists, columns_of}
use Rattle.pawn_tables.specs.Ours.{with_indexes}
use Rattle.pawn_tables.specs.Schema.{keep_schema}
use Rattle.sqlite_rules.specs.Keys.{conflicts, shares}
use Rattle.std.proofs.Common.{◌≡◌, ◌&&◌, ◌||◌, ◌++◌, ℕ, ℤ, ◌/◌, List, [], ◌∷◌, length, Bool, true, false, Option, Ok}
use Rattle.std.proofs.Common.{refl, sym, ap, filter, IsPermutation, ◌∙◌}

-- the tables list other rows, under the same schema as before
pub under_same : {db old : Database} {listed was : Listed} (st : ListsOurs old was) → Lists (with_indexes st.more) db listed → ListsOurs db listed
under_same st lists = record { more = st.more; loose = st.loose; lists = lists }

-- the same database lists these rows too
pub with_tables : {db : Database} {listed was : Listed} → ListsOurs db was
    → AllByRecursion (λ (t : Table). Holds db.trees t.tree t (listed t.tree)) keep_schema.tables → ListsOurs db listed
with_tables st tables = under_same st (record { schema_is = st.lists.schema_is; sound = st.lists.sound; tables = tables })

-- a row that is put joins those of its table
module _ (at : ℕ) (t : Table) (terms : List Term) (width : ℕ) (text : List ℕ) (there : (more : List Index) → IsPlace (with_indexes more) at t)
    (puts : (more : List Index) → Puts (with_indexes more) text at terms width) where
  pub row_joins : (old new : State) (params source row shown : Row) (count : ℕ) (listed : Listed) → ListsOurs old.now listed
      → value_rows params width (length terms / width) terms ≡ source ∷ [] → cast_row (plainly t) source ≡ row → ((rows : List Row) → columns_of (plainly t)
      (with_rowid Chosen rows row) ≡ shown) → Executes text params old new (Ok count) → ListsOurs new.now (with_rows listed t.tree (shown ∷ listed t.tree))
  row_joins old new params source row shown count listed st all as_it_is shows h =
      under_same st (inserted (with_indexes st.more) at t terms width text (there st.more) (puts st.more).0
      (puts st.more).1 old new params source row shown count listed st.lists all as_it_is shows h)

  -- under the schema that was there
  pub joins_schema : (old new : State) (params source row shown : Row) (count : ℕ) (listed : Listed) → ListsOurs old.now listed
      → value_rows params width (length terms / width) terms ≡ source ∷ [] → cast_row (plainly t) source ≡ row → ((rows : List Row) → columns_of (plainly t)
      (with_rowid Chosen rows row) ≡ shown) → Executes text params old new (Ok count) → new.now.schema ≡ old.now.schema
  unfolding row_joins under_same
  joins_schema old new params source row shown count listed st all as_it_is shows h =
      (row_joins old new params source row shown count listed st all as_it_is shows h).lists.schema_is ∙ sym st.lists.schema_is

module _ (at : ℕ) (t : Table) (there : (more : List Index) → IsPlace (with_indexes more) at t) (is_tree : (db : Trees) → overlay db [] t.tree ≡ db t.tree)
    (tests shows : List Term) (text : List ℕ)
    (sets : (more : List Index) → Sets (with_indexes more) text at (over_table t.tree tests shows [])) (old new : State) (params : Row) (count : ℕ)
    (listed : Listed) (st : ListsOurs old.now listed) where
  -- what a statement makes of the one row that it finds
  abbrev pub Makes : Row → Row → Type 0
  Makes before after =
      (id : ℤ) (r : Row) → rowid r ≡ Int id → columns_of (plainly t) r ≡ before → (source : Row) × (tail : Row) × (shows_of shows params r ≡ Int id ∷ source)
      × (cast_row (plainly t) source ≡ Int id ∷ tail) × (columns_of (plainly t) (Int id ∷ tail) ≡ after)

  -- the one row that passes a test takes these columns
  pub row_set_by : (test : Row → Bool) (before after : Row) (rest : List Row) → ((r : Row) → passes tests params r ≡ test (columns_of (plainly t) r))
      → IsPermutation (listed t.tree) (before ∷ rest) → test before ≡ true → filter test rest ≡ []
      → Makes before after → Executes text params old new (Ok count) → ListsOurs new.now (with_rows listed t.tree (after ∷ rest))
  row_set_by test before after rest passes_is split here none makes h =
      under_same st (set_one (with_indexes st.more) at t (there st.more) is_tree tests shows test text (sets st.more).0
      (sets st.more).1 old new params count listed before after rest st.lists passes_is split here none makes h)

  -- and the schema stays
  pub row_set_alone : (test : Row → Bool) (before after : Row) (rest : List Row) → ((r : Row) → passes tests params r ≡ test (columns_of (plainly t) r))
      → IsPermutation (listed t.tree) (before ∷ rest) → test before ≡ true → filter test rest ≡ [] → Makes before after
      → Executes text params old new (Ok count) → (new.now.schema ≡ old.now.schema) × ListsOurs new.now (with_rows listed t.tree (after ∷ rest))
  unfolding row_set_by under_same
  row_set_alone test before after rest passes_is split here none makes h = let l = row_set_by test before after rest passes_is split here none makes h in
      (l.lists.schema_is ∙ sym st.lists.schema_is, l)

  -- it takes them where it passes another test too, or has them before
  pub row_set_where : (test differs : Row → Bool)
      → ((r : Row) → passes tests params r ≡ (test (columns_of (plainly t) r) && differs (columns_of (plainly t) r))) → (before after : Row) (rest : List Row)
      → IsPermutation (listed t.tree) (before ∷ rest) → test before ≡ true → filter test rest ≡ [] → (differs before ≡ false → before ≡ after)
      → Makes before after → Executes text params old new (Ok count) → ListsOurs new.now (with_rows listed t.tree (after ∷ rest))
  row_set_where test differs passes_is before after rest split here none has makes h =
      under_same st (set_where (with_indexes st.more) at t (there st.more) is_tree tests shows text (sets st.more).0
      (sets st.more).1 old new params count listed st.lists test differs passes_is before after rest split here none has makes h)

-- ---- loose indexes conflict with no row

any_append : (p : Index → Bool) (xs ys : List Index) → list_any p ys ≡ false → list_any p (xs ++ ys) ≡ list_any p xs
any_append p [] ys none = none
any_append p (x ∷ xs) ys none = ap (λ b. p x || b) (any_append p xs ys none)

none_shares : (more : List Index) → AreLoose more → (target : Option (List ℕ)) (table : Table) (new row : Row)
    → list_any (shares target table new row) more ≡ false
none_shares [] loose target table new row = refl
none_shares (i ∷ more) loose target table new row = let plain = loose.0 in let rest = none_shares more loose.1 target table new row in rw (plain, rest) refl

-- a new row meets the rows that it would meet without them
pub meets_same : (more : List Index) → AreLoose more → (target : Option (List ℕ)) (table : Table) (new row : Row)
    → conflicts target (with_indexes more).indexes table new row ≡ conflicts target keep_schema.indexes table new row
meets_same more loose target table new row =
    rw (any_append (shares target table new row) keep_schema.indexes more (none_shares more loose target table new row)) refl
