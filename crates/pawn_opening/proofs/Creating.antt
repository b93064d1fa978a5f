-- What CREATE TABLE makes of empty tables.
use Rattle.pawn_opening.proofs.Basics.{went, same_value, clean_before, lent_then}
use Rattle.pawn_opening.proofs.Gained.{kept_tables}
use Rattle.pawn_opening.proofs.TableTexts.{AreCreations, IsCreation, are_creations, extensions_is, later_texts}
use Rattle.pawn_opening.proofs.TableTexts.{totals_is}
use Rattle.pawn_opening.specs.Common.{AllByRecursion, KeepsRows, CreateTable, Tally, Database, IsDatabase, Schema}
use Rattle.pawn_opening.specs.Common.{Executes, HasCleanDisk, State, Table, Trees, IsLent, Holds, IsNumbered, Listed}
use Rattle.pawn_opening.specs.Common.{Lists, columns_of, with_rows, Error, no_schema}
use Rattle.pawn_opening.specs.Laying.{AddsTable, AreEmpty, Makes, no_rows}
use Rattle.pawn_tables.specs.Schema.{extensions, extensions_tree, first_schema, keep_schema, second_schema, totals}
use Rattle.pawn_tables.specs.Schema.{totals_tree, books}
use Rattle.pawn_tables.specs.declared.texts.TheConstants.{MAKE_BOOKS, MAKE_EXTENSIONS, MAKE_TOTALS}
use Rattle.sqlite.proofs.Callers.{runs_as}
use Rattle.sqlite.specs.Change.{created, next_tree}
use Rattle.sqlite.specs.Does.{lacks_sequence}
use Rattle.sqlite.specs.State.{Writes}
use Rattle.sqlite_trees.proofs.ListLemmas.{all-append}
use Rattle.std.proofs.Common.{◌≡◌, ℕ, List, [], ◌∷◌, map, Bool, true, false, None, Ok, Err, Result, OnOk, IsTrue, refl}
use Rattle.std.proofs.Common.{sym, ap, subst, ◌∙◌, IsPermutation}
use Rattle.std.proofs.lemmas.List.Sorted.{IsPermutation-refl}

-- a tree without rows
empty_tree : (db : Trees) (tree : ℕ) (table : Table) → db tree ≡ [] → Holds db tree table []
empty_tree db tree table none = record {
  same = subst (λ rows. IsPermutation [] (map (columns_of table) rows)) (sym none) (IsPermutation-refl []);
  numbered = subst IsNumbered (sym none) (tt, tt);
}

-- what is made of tables that list these rows: the others are kept, and the new one is empty
pub record IsAdded (schema : Schema) (table : Table) (new : Database) (listed : Listed) : Type 0 where
  pub schema_is : new.schema ≡ created schema table
  pub sound : IsDatabase new
  pub others : AllByRecursion (λ (t : Table). Holds new.trees t.tree t (listed t.tree)) schema.tables
  pub empty : Holds new.trees (next_tree schema) (record table { tree = next_tree schema }) []

pub adds : (schema : Schema) (text : List ℕ) (table : Table) → IsCreation schema text table → (old new : State) (count : ℕ) (listed : Listed)
    → Lists schema old.now listed → Executes text [] old new (Ok count) → IsAdded schema table new.now listed
adds schema text table (defined, command, whole, plain, sequence) old new count listed st h = let has = st.schema_is in
    let w = subst (λ t. Writes old new None CreateTable t [] count) whole (runs_as text [] old new schema has CreateTable command plain count h) in
    let all = went w.changed in let first = went all.1 in
    let made = first.1 in let both : Ok made.table ≡ Ok table = sym made.defined ∙ defined in
    let same : made.table ≡ table = cc in
    let is : first.0.schema ≡ created schema table = made.is ∙ ap (λ s. created s made.table) has ∙ ap (created schema) same in
    let bare : lacks_sequence first.0.schema ≡ false = ap lacks_sequence is ∙ sequence in
    let now : new.now ≡ first.0 = ap (λ (p : Tally × Database). p.1) (same_value all.2) ∙ same_value (rw bare at first.2) in
    let empty : new.now.trees (next_tree schema) ≡ [] = ap (λ (d : Database). d.trees (next_tree schema)) now
    ∙ subst (λ s. first.0.trees (next_tree s) ≡ []) has made.empty in
    let others : KeepsRows schema.tables old.now.trees new.now.trees =
    subst (λ (s : Schema). KeepsRows s.tables old.now.trees new.now.trees) has
    (subst (λ (d : Database). KeepsRows old.now.schema.tables old.now.trees d.trees) (sym now) made.others) in
    record {
      schema_is = ap (λ (d : Database). d.schema) now ∙ is;
      sound = w.sound;
      others = kept_tables schema.tables old.now.trees new.now.trees listed others st.tables;
      empty = empty_tree new.now.trees (next_tree schema) (record table { tree = next_tree schema }) empty;
    }

creates : (schema : Schema) (text : List ℕ) (table : Table) → IsCreation schema text table → (old new : State) (count : ℕ) → AreEmpty schema old.now
    → Executes text [] old new (Ok count) → AreEmpty (created schema table) new.now
creates schema text table m old new count st h = let a = adds schema text table m old new count no_rows st h in
    record {
      schema_is = a.schema_is;
      sound = a.sound;
      tables = all-append (λ (t : Table). Holds new.now.trees t.tree t []) schema.tables (record table { tree = next_tree schema } ∷ []) a.others (a.empty, tt);
    }

-- the text ran, where no error came
abbrev pub Ran : {E : Type 0} → List ℕ → State → State → Result (Unit {0}) E → Type 0
Ran text old new r = HasCleanDisk new → IsTrue old.in_transaction → OnOk r ((count : ℕ) × Executes text [] old new (Ok count))

makes_one : {E : Type 0} (schema : Schema) (text : List ℕ) (table : Table) → IsCreation schema text table → (old new : State) (r : Result (Unit {0}) E)
    → Ran text old new r → Makes old new r schema (created schema table)
makes_one schema text table m old new (Ok done) ran clean within st = let it = ran clean within in creates schema text table m old new it.0 st it.1
makes_one schema text table m old new (Err e) ran clean within st = tt

-- empty tables of schema s were made of none, and these are made next
pub record IsMadeTo (a b : State) (s : Schema) (more : List (List ℕ × Table)) : Type 0 where
  pub lent : IsLent a b true
  pub made : Makes {E = Error} a b (Ok tt) no_schema s
  pub rest : AreCreations s more

pub first_made : {a b : State} → IsLent a b true → Ran {E = Error} MAKE_BOOKS.now a b (Ok tt) → IsMadeTo a b (created no_schema books) later_texts
first_made {a} {b} lent ran =
    record { lent = lent; made = makes_one {E = Error} no_schema MAKE_BOOKS.now books are_creations.0 a b (Ok tt) ran; rest = are_creations.1 }

module _ {a b c : State} {s : Schema} {text : List ℕ} {table : Table} {more : List (List ℕ × Table)} (before : IsMadeTo a b s ((text, table) ∷ more)) where
  pub last_made : {E : Type 0} {ok : Bool} (r : Result (Unit {0}) E) → IsLent b c ok → Ran text b c r → Makes a c r no_schema (created s table)
  last_made {ok = ok} r lent ran clean within st = let was = clean_before b c ok lent clean in
      makes_one s text table before.rest.0 b c r ran clean (before.lent.inside was within refl) (before.made was within st)

  pub next_made : IsLent b c true → Ran {E = Error} text b c (Ok tt) → IsMadeTo a c (created s table) more
  next_made lent ran = record { lent = lent_then a b c true before.lent lent; made = last_made {E = Error} (Ok tt) lent ran; rest = before.rest.1 }

-- ---- a table beside those of an earlier schema

-- the new table is listed beside the others
abbrev FitsIn : Schema → Table → ℕ → Type 0
FitsIn schema table tree = (db : Trees) (listed : Listed) → AllByRecursion (λ (t : Table). Holds db t.tree t (listed t.tree)) schema.tables → Holds db tree
    (record table { tree = tree }) [] → AllByRecursion (λ (t : Table). Holds db t.tree t (with_rows listed tree [] t.tree)) (created schema table).tables

adds_table : {E : Type 0} (schema : Schema) (text : List ℕ) (table : Table) → IsCreation schema text table → FitsIn schema table (next_tree schema)
    → (old new : State) (r : Result (Unit {0}) E) → Ran text old new r → AddsTable old new r schema (created schema table) (next_tree schema)
adds_table schema text table m fits old new (Ok done) ran clean within listed st = let it = ran clean within in
    let a = adds schema text table m old new it.0 listed st it.1 in
    record { schema_is = a.schema_is; sound = a.sound; tables = fits new.now.trees listed a.others a.empty }
adds_table schema text table m fits old new (Err e) ran clean within listed st = tt

pub adds_totals : {E : Type 0} (old new : State) (r : Result (Unit {0}) E) → Ran MAKE_TOTALS.now old new r → AddsTable old new r first_schema second_schema 15
adds_totals = adds_table first_schema MAKE_TOTALS.now totals totals_is (λ db listed others empty. all-append (λ (t : Table). Holds db t.tree t
    (with_rows listed totals_tree [] t.tree)) first_schema.tables (record totals { tree = totals_tree } ∷ []) others (empty, tt))

pub adds_extensions : {E : Type 0} (old new : State) (r : Result (Unit {0}) E) → Ran MAKE_EXTENSIONS.now old new r
    → AddsTable old new r second_schema keep_schema 17
adds_extensions = adds_table second_schema MAKE_EXTENSIONS.now extensions extensions_is (λ db listed others empty. all-append (λ (t : Table). Holds db t.tree t
    (with_rows listed extensions_tree [] t.tree)) second_schema.tables (record extensions { tree = extensions_tree } ∷ []) others (empty, tt))

-- tables without rows stay so, where one is added: those of the last schema were made
pub all_made : {E : Type 0} {ok : Bool} {a b c d : State} (r : Result (Unit {0}) E) → IsLent a b true → IsLent b c true → IsLent c d ok
    → Makes {E = Error} a b (Ok tt) no_schema first_schema → AddsTable {E = Error} b c (Ok tt) first_schema second_schema totals_tree
    → AddsTable c d r second_schema keep_schema extensions_tree → Makes a d r no_schema keep_schema
all_made (Err e) one two three made more last clean within st = tt
all_made {ok = ok} {a} {b} {c} {d} (Ok done) one two three made more last clean within st =
    let third = clean_before c d ok three clean in let second = clean_before b c true two third in let inside = one.inside second within refl in
    let l = last clean (two.inside third inside refl) _ (more third inside no_rows (made second within st)) in
    record { schema_is = l.schema_is; sound = l.sound; tables = l.tables }
