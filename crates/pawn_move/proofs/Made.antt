-- Tables that are added beside others, and the number of the schema that is noted anew.
use Rattle.one_table.proofs.OneTable.{over_table}
use Rattle.one_table.proofs.Rowed.{cast_int, cast_whole}
use Rattle.one_table.proofs.Texts.{Sets}
use Rattle.pawn_move.proofs.Basics.{row_set_alone, with_tables, clean_before}
use Rattle.pawn_move.proofs.Filled.{as_ours, as_plain}
use Rattle.pawn_move.specs.Moving.{Finishes, HasMoved, IsMoving, NotesProgram, listed_with}
use Rattle.pawn_opening.proofs.Gained.{gains_lists}
use Rattle.pawn_opening.specs.Common.{everything, understood, Row, column, value_cmp, Executes, State}
use Rattle.pawn_opening.specs.Common.{Host, ListsOurs, Schema, rows, IsLent, meta_row, with_indexes}
use Rattle.pawn_opening.specs.Indexing.{AddsIndexes, AreLacked, GainsIndexes}
use Rattle.pawn_opening.specs.declared.indexing.Lacking.{Lacking}
use Rattle.pawn_saving.proofs.Places.{meta_place}
use Rattle.pawn_tables.specs.Common.{KeepError, Tables}
use Rattle.pawn_tables.specs.Schema.{meta, meta_tree}
use Rattle.pawn_tables.specs.declared.texts.TheConstants.{SET_SCHEMA}
use Rattle.sqlite.specs.Collation.TheVariants.{Binary}
use Rattle.sqlite.specs.Ops.{binary, is_true}
use Rattle.sqlite.specs.Term.{Term, lit, col, op2}
use Rattle.sqlite.specs.declared.types.Value.TheVariants.{Int, Text}
use Rattle.sqlite_schema.specs.declared.schema.Index.{Index}
use Rattle.sqlite_sql.specs.declared.ops.BinaryOp.TheVariants.{Compare}
use Rattle.sqlite_sql.specs.declared.ops.CompareOp.TheVariants.{Eq}
use Rattle.std.proofs.Common.{◌≡◌, ℕ, pos, List, [], ◌∷◌, filter, codes, Bool, true, Ok, Err, Result, OnOk}
use Rattle.std.proofs.Common.{refl, Option, None, Some, ap, subst, ◌++◌, ◌∙◌}
use Rattle.std.proofs.lemmas.List.Sorted.{IsPermutation-refl}
use Rattle.std.specs.List.{list_all}

-- ---- the number is noted

abbrev note_tests : List Term
note_tests = op2 (Compare Eq Binary) (col 1 1) (lit (Text (codes "schema"))) ∷ []

abbrev note_shows : List Term
note_shows = col 1 0 ∷ col 1 0 ∷ col 1 1 ∷ col 0 0 ∷ []

note_is : (more : List Index) → Sets (with_indexes more) SET_SCHEMA.now 6 (over_table meta_tree note_tests note_shows [])
unfolding understood everything
note_is more = (refl, (refl, refl))

abbrev is_schema : Row → Bool
is_schema v = list_all (λ (x : Bool). x) (is_true (binary (Compare Eq Binary) (column v 0) (Text (codes "schema"))) ∷ [])

alone : (n counted limit : ℕ)
    → (is_schema (meta_row (codes "schema") n) ≡ true) × (filter is_schema (meta_row (codes "rows") counted ∷ meta_row (codes "limit") limit ∷ []) ≡ [])
unfolding binary value_cmp lib.Ieee.is_nan lib.Ieee.lt
alone n counted limit = (refl, refl)

pub program_noted : (old new : State) (count n : ℕ) (owed : List Row) (h : Host) → IsMoving n owed old.now h
    → Executes SET_SCHEMA.now (Int (pos 3) ∷ []) old new (Ok count) → IsMoving 3 owed new.now h
program_noted old new count n owed h m ran = let rest : List Row = meta_row (codes "rows") (rows h) ∷ meta_row (codes "limit") h.limit ∷ [] in
    let after : Row = meta_row (codes "schema") 3 in let only = alone n (rows h) h.limit in
    let set = row_set_alone 6 (record meta { tree = meta_tree }) meta_place (λ _. refl) note_tests note_shows SET_SCHEMA.now note_is old new (Int (pos 3) ∷ [])
    count (listed_with n owed h) (as_ours n owed old.now h m) is_schema (meta_row (codes "schema") n) after rest (λ row. refl) (IsPermutation-refl _)
    only.0 only.1 (λ id row at cols.
    let name : column row 1 ≡ Text (codes "schema") = (let e = cols in cc) in
    (Int id ∷ after, after, (λ i. at i ∷ at i ∷ name i ∷ Int (pos 3) ∷ []), (λ i. cast_whole id i ∷ Text (codes "schema") ∷ cast_int 3 i ∷ []), refl)) ran in
    let ours : ListsOurs new.now (listed_with 3 owed h) = with_tables set.1 set.1.lists.tables in
    record { lists = as_plain (set.0 ∙ m.lists.schema_is) ours; ordered = m.ordered; storable = m.storable; unextended = m.unextended }

-- ---- and the indexes are made

finished : (which : Option Lacking) (owed : List Row) (old new : Tables) (h : Host) → GainsIndexes which old new → IsMoving 3 owed old h
    → HasMoved which owed new h
finished which owed old new h g m = record {
  lists = gains_lists old new (listed_with 3 owed h) g (as_ours 3 owed old h m);
  made = (
    g.more,
    subst (λ (s : Schema). AreLacked which s.tables g.more) m.lists.schema_is g.lacked,
    g.is ∙ ap (λ (s : Schema). record s { indexes = s.indexes ++ g.more }) m.lists.schema_is,
  );
  ordered = m.ordered;
  storable = m.storable;
  unextended = m.unextended;
}

pub noted_then : (which : Lacking) (a b c : State) (r : Result (Unit {0}) KeepError) (ok : Bool) → IsLent a b true → IsLent b c ok
    → NotesProgram a b (Ok tt) → AddsIndexes which b c r → Finishes (Some which) a c r
noted_then which a b c r ok first second notes adds clean within n owed h m = let was = clean_before b c ok second clean in
    go r (notes was within n owed h m) (adds clean (first.inside was within refl)) where
      go : (x : Result (Unit {0}) KeepError) → IsMoving 3 owed b.now h → OnOk x (GainsIndexes (Some which) b.now c.now)
          → OnOk x (HasMoved (Some which) owed c.now h)
      go (Ok done) moving g = finished (Some which) owed b.now c.now h g moving
      go (Err e) moving g = tt

-- none is lacking
pub noted_alone : (a b : State) → NotesProgram a b (Ok tt) → Finishes None a b (Ok tt)
noted_alone a b notes clean within n owed h m = let it = notes clean within n owed h m in record {
  lists = as_ours 3 owed b.now h it;
  made = ([], refl, it.lists.schema_is);
  ordered = it.ordered;
  storable = it.storable;
  unextended = it.unextended;
}
