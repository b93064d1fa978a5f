-- INSERT of one row, by the rows that the tables hold.
use Rattle.one_table.proofs.Rowed.{plainly, put_one, carried, at_place, IsAlone}
use Rattle.one_table.specs.Common.{Enforced, Insert, Does, Tally, Database, IsDatabase, value_rows, Row, Chosen, Schema}
use Rattle.one_table.specs.Common.{Values, Table, Term}
use Rattle.one_table.specs.Listing.{Holds, Lists, Listed, with_rows, columns_of}
use Rattle.sqlite.proofs.Callers.{IsPlain, command_of, one_step, runs_as, statement_of}
use Rattle.sqlite.specs.Cast.{cast_row}
use Rattle.sqlite.specs.Edit.{Applies, edit_of, with_rowid}
use Rattle.sqlite.specs.Listing.{understood}
use Rattle.sqlite.specs.Rows.{Written}
use Rattle.sqlite.specs.State.{Executes, State, mode_of}
use Rattle.sqlite_rules.specs.Action.{works}
use Rattle.std.proofs.Common.{◌≡◌, ◌⊎◌, inl, inr, ℕ, ◌/◌, List, [], ◌∷◌, map, length, Some, None, Result, Ok, Err, sym}
use Rattle.std.proofs.Common.{ap, subst, ◌∙◌, IsPermutation, slice_get, append-nil}
use Rattle.std.proofs.lemmas.List.Sorted.{IsPermutation-cons, IsPermutation-map, IsPermutation-trans}

-- a part that gave a value did not stop on the way
pub went : {B E R : Type 0} {b : B} {Stops : E → Type 0} → ((stop : E) × Stops stop × (Ok b ≡ Err stop)) ⊎ R → R
went (inl stopped) = absurd (let e = stopped.2 in cc)
went (inr on) = on

pub same_value : {B E : Type 0} {a b : B} → ◌≡◌ {A = Result B E} (Ok a) (Ok b) → a ≡ b
same_value e = cc

-- a table of the schema, on which no foreign key acts
pub record IsPlace (schema : Schema) (at : ℕ) (t : Table) : Type 0 where
  pub listed : slice_get schema.tables at ≡ Some (plainly t)
  pub alone : IsAlone (plainly t) schema.tables
  pub idle : (olds news : List Row) → works schema Enforced 0 t.tree olds news ≡ []

module _ (schema : Schema) (at : ℕ) (t : Table) (terms : List Term) (width : ℕ) (text : List ℕ) (there : IsPlace schema at t)
    (command : command_of (understood schema text) ≡ Insert at (Values terms width)) (plain : IsPlain (understood schema text)) where
  abbrev table : Table
  table = plainly t

  inserts : (old new : State) (params row : Row) (count : ℕ) → old.now.schema ≡ schema → value_rows params width (length terms / width) terms ≡ row ∷ []
      → Executes text params old new (Ok count) → (new.now.schema ≡ schema)
      × Applies schema Enforced old.now.trees (edit_of old.now.trees table [] Chosen 0 (row ∷ [])) new.now.trees × IsDatabase new.now
  inserts old new params row count has all h = let db = old.now.trees in
      let w = runs_as text params old new schema has _ command plain count h in
      let whole = statement_of text (understood schema text) in
      let does = subst (λ s. Does old.step_limit (mode_of old) params (record old.now { schema = s }) whole None (Insert at (Values terms width))
      (Ok (w.tally, new.now))) has w.changed in
      let done = went (rw there.listed at does) in
      let now = ap (λ (p : Tally × Database). p.1) (same_value (went (went done.2).2).2) in
      let given = went done.1 in let written = went (went given.2).2 in
      let counted = went written.2 in
      let trees : done.0.trees ≡ written.0 = ap (λ (it : Written). it.trees) (same_value counted.2) ∙ same_value counted.1 in
      let rows_are : given.0 ≡ row ∷ [] = given.1.1 ∙ ap (λ p. value_rows p width (length terms / width) terms) (append-nil params) ∙ all in
      let applies = one_step schema _ db written.0 (edit_of db table [] Chosen 0 given.0) (there.idle [] _) written.1 in (
        ap (λ (d : Database). d.schema) now,
        subst (λ d. Applies schema Enforced db (edit_of db table [] Chosen 0 (row ∷ [])) d) (sym (ap (λ (d : Database). d.trees) now ∙ trees))
            (subst (λ rs. Applies schema Enforced db (edit_of db table [] Chosen 0 rs) written.0) rows_are applies),
        w.sound,
      )

  -- the row joins those of its table
  pub inserted : (old new : State) (params source row shown : Row) (count : ℕ) (listed : Listed) → Lists schema old.now listed → value_rows params width
      (length terms / width) terms ≡ source ∷ [] → cast_row table source ≡ row → ((rows : List Row) → columns_of table (with_rowid Chosen rows row) ≡ shown)
      → Executes text params old new (Ok count) → Lists schema new.now (with_rows listed t.tree (shown ∷ listed t.tree))
  inserted old new params source row shown count listed st all as_it_is shows h = let db = old.now.trees in
      let next = new.now.trees in let it = inserts old new params source count st.schema_is all h in
      let put = put_one schema db next table source it.1 in
      let holds : Holds db t.tree table (listed t.tree) =
      at_place (λ (u : Table). Holds db u.tree u (listed u.tree)) schema.tables at table there.listed st.tables in
      let moved = IsPermutation-map (columns_of table) _ _ put.0 in
      let cols : columns_of table (with_rowid Chosen (db t.tree) (cast_row table source)) ≡ shown =
      ap (λ r. columns_of table (with_rowid Chosen (db t.tree) r)) as_it_is ∙ shows (db t.tree) in
      let same : IsPermutation (shown ∷ listed t.tree) (map (columns_of table) (next t.tree)) =
      IsPermutation-trans _ _ _ (IsPermutation-cons shown _ _ holds.same)
      (subst (λ c. IsPermutation (c ∷ map (columns_of table) (db t.tree)) (map (columns_of table) (next t.tree))) cols moved) in
      record {
        schema_is = it.0;
        sound = it.2;
        tables = carried schema.tables table db next listed (shown ∷ listed t.tree) there.alone st.tables it.1.tables
            (record { same = same; numbered = put.1 holds.numbered });
      }
