-- Tables that stand for a host note our schema.
use Rattle.one_table.proofs.OneTable.{over_table, passes, shows_of, found}
use Rattle.one_table.proofs.Texts.{Asks}
use Rattle.pawn_opening.specs.Common.{list_all, Index, everything, Select, Database, understood, Row, column, value_cmp}
use Rattle.pawn_opening.specs.Common.{Schema, Term, col, lit, op2, Int, Null, Text, Host, rows, Holds, columns_of}
use Rattle.pawn_opening.specs.Common.{notes, with_indexes, StandsFor, READ_SCHEMA}
use Rattle.pawn_opening.specs.Refusing.{AnswersOpening, HasNoAnswer, IsEmptyStore, IsOneNumber, IsRefusedFor}
use Rattle.pawn_opening.specs.Refusing.{IsStoreFault, NotesNoSchema, NotesSchema}
use Rattle.pawn_opening.specs.declared.fault.OpenFault.{OpenFault}
use Rattle.pawn_opening.specs.declared.fault.OpenFault.TheVariants.{Memory, NotOurs, OldSchema, Store}
use Rattle.pawn_tables.specs.Schema.{keep_schema, meta, meta_tree}
use Rattle.sqlite.proofs.Callers.{IsPlain, command_of, one_permutation}
use Rattle.sqlite.specs.Collation.TheVariants.{Binary}
use Rattle.sqlite.specs.Effect.{Reads}
use Rattle.sqlite.specs.Listing.{IsSourceOf, reads_listing}
use Rattle.sqlite.specs.Ops.{binary, is_true}
use Rattle.sqlite.specs.Program.{overlay}
use Rattle.sqlite.specs.Query.{IsAnswer}
use Rattle.sqlite_sql.specs.declared.ops.BinaryOp.TheVariants.{Compare}
use Rattle.sqlite_sql.specs.declared.ops.CompareOp.TheVariants.{Eq}
use Rattle.sqlite_trees.proofs.ListLemmas.{map-map, filter-map, IsPermutation-filter}
use Rattle.std.proofs.Common.{◌≡◌, inl, inr, ℕ, List, [], ◌∷◌, pos, map, filter, codes, Bool, refl, sym, ap, subst, ◌∙◌}
use Rattle.std.proofs.Common.{arith, IsPermutation}
use Rattle.std.proofs.lemmas.List.Sorted.{IsPermutation-map}

-- the text asks meta of a schema, where it stands in its tree
abbrev pub AsksMeta : Schema → Type 0
AsksMeta s =
    Asks s READ_SCHEMA.now (over_table meta_tree (op2 (Compare Eq Binary) (col 1 1) (lit (Text (codes "schema"))) ∷ []) (col 1 2 ∷ []) []) (codes "value" ∷ [])

pub schema_is : (more : List Index) → AsksMeta (with_indexes more)
unfolding understood everything
schema_is more = (refl, refl, (refl, refl))

abbrev is_schema : Row → Bool
is_schema v = list_all (λ (x : Bool). x) (is_true (binary (Compare Eq Binary) (column v 0) (Text (codes "schema"))) ∷ [])

alone : (n counted limit : ℕ) → map (λ v. column v 1 ∷ []) (filter is_schema (notes n counted limit)) ≡ (Int (pos n) ∷ []) ∷ []
unfolding binary value_cmp lib.Ieee.is_nan lib.Ieee.lt
alone n counted limit = refl

-- tables of a schema, of which meta notes a number
module _ (db : Database) (s : Schema) (asks : AsksMeta s) (n counted limit : ℕ) (schema : db.schema ≡ s)
    (noted : Holds db.trees meta_tree (record meta { tree = meta_tree }) (notes n counted limit)) where
  known : understood db.schema READ_SCHEMA.now ≡ understood s READ_SCHEMA.now
  known = ap (λ s. understood s READ_SCHEMA.now) schema

  pub is_understood : HasNoAnswer db → ⊥
  is_understood none = subst IsPlain (sym known ∙ none.1) asks.2

  answers_number : (rows : List Row) → AnswersOpening db rows → rows ≡ (Int (pos n) ∷ []) ∷ []
  answers_number rows a = let tests : List Term = op2 (Compare Eq Binary) (col 1 1) (lit (Text (codes "schema"))) ∷ [] in
      let shows : List Term = col 1 2 ∷ [] in
      let same : a.source ≡ db = subst (λ b. IsSourceOf b db a.source) (ap (λ s. reads_listing s READ_SCHEMA.now) schema ∙ asks.1) a.from in
      let command = sym (ap command_of (sym known ∙ a.is_understood)) ∙ asks.0 in
      let read = subst (λ d. Reads (Select (record { lets = []; body = over_table meta_tree tests shows [] }) (codes "value" ∷ [])) d [] rows) same
      (subst (λ k. Reads k a.source [] rows) command a.reads) in
      let answer : IsAnswer (over_table meta_tree tests shows []) (overlay db.trees []) [] rows = read.answer Null in
      let by_rows = found 13 tests shows [] (overlay db.trees []) [] rows answer in let cells = λ (v : Row). column v 1 ∷ [] in
      let by_columns : map (shows_of shows []) (filter (passes tests []) (db.trees meta_tree)) ≡ map cells
      (filter is_schema (map (columns_of meta) (db.trees meta_tree))) =
      sym (ap (map cells) (filter-map is_schema (columns_of meta) (db.trees meta_tree)) ∙ map-map cells (columns_of meta) _) in
      let one = one_permutation _ _ (subst (λ xs. IsPermutation xs (map cells (filter is_schema (map (columns_of meta) (db.trees meta_tree)))))
      (alone n counted limit) (IsPermutation-map cells _ _ (IsPermutation-filter is_schema _ _ noted.same))) in
      one_permutation _ rows (subst (λ xs. IsPermutation xs rows) (by_columns ∙ one) by_rows)

  pub is_number : (rows : List Row) → AnswersOpening db rows → IsOneNumber rows n
  is_number rows a = (Int (pos n) ∷ [], answers_number rows a, refl)

  -- no other number is noted
  pub only_number : (m : ℕ) → NotesSchema db m → m ≡ n
  only_number m it = let first : (Int (pos n) ∷ []) ∷ [] ≡ it.2.0 ∷ [] = sym (answers_number it.0 it.1) ∙ it.2.1 in
      let row : Int (pos n) ∷ [] ≡ it.2.0 = cc in let value : Int (pos m) ≡ Int (pos n) = sym it.2.2 ∙ ap (λ r. column r 0) (sym row) in
      cc

  pub notes_some : NotesNoSchema db → ⊥
  notes_some (inl none) = is_understood none
  notes_some (inr (rows, a, none)) = none n (is_number rows a)

module _ (db : Database) (h : Host) (st : StandsFor db h) where
  pub not_empty : IsEmptyStore db → ⊥
  not_empty none = absurd (let e : keep_schema.tables ≡ [] = ap (λ (s : Schema). s.tables) (sym st.schema.is ∙ none) in cc)

  only : (n : ℕ) → NotesSchema db n → n ≡ 3
  only = only_number db (with_indexes st.schema.more) (schema_is st.schema.more) 3 (rows h) h.limit st.schema.is st.meta

  some : NotesNoSchema db → ⊥
  some = notes_some db (with_indexes st.schema.more) (schema_is st.schema.more) 3 (rows h) h.limit st.schema.is st.meta

  -- so a store that stands for a host is refused for a fault alone
  pub only_faults : (why : OpenFault) → IsRefusedFor db why → IsStoreFault why
  only_faults NotOurs (other, inl none) = absurd (some none)
  only_faults NotOurs (other, inr (n, noted, far)) = elim far
      [ inl zero' ↦ absurd (let is = only n noted in omega (arith, is, zero')) | inr above ↦ absurd (let is = only n noted in omega (arith, is, above)) ]
  only_faults (OldSchema n) it = absurd (let is = only n it.0 in let below = it.2 in omega (arith, is, below))
  only_faults Store it = tt
  only_faults Memory it = tt
