-- What a database that has gained indexes stands for.
use Rattle.pawn_opening.specs.Common.{AllByRecursion, KeepsRows, Index, Database, IsDatabase, Row, Schema, Table, Trees}
use Rattle.pawn_opening.specs.Common.{Host, Holds, IsNumbered, Listed, columns_of, AreLoose, ListsOurs, with_indexes}
use Rattle.pawn_opening.specs.Common.{StandsFor}
use Rattle.pawn_opening.specs.Indexing.{AreLacked, GainsIndexes, IsMadeBy}
use Rattle.pawn_opening.specs.declared.indexing.Lacking.{Lacking}
use Rattle.pawn_opening.specs.declared.indexing.Lacking.TheVariants.{PledgesByEnd, BookingsByTime, Both}
use Rattle.pawn_tables.specs.Schema.{keep_schema}
use Rattle.pawn_tables.specs.declared.texts.TheConstants.{MAKE_BOOKINGS_BY_TIME, MAKE_PLEDGES_BY_END}
use Rattle.std.proofs.Common.{◌≡◌, ◌++◌, List, [], ◌∷◌, refl, sym, ap, subst, ◌∙◌, append-nil, append_assoc, ℕ, map}
use Rattle.std.proofs.Common.{IsPermutation, Option, Some, None, false}

loose_both : (xs ys : List Index) → AreLoose xs → AreLoose ys → AreLoose (xs ++ ys)
loose_both [] ys p q = q
loose_both (x ∷ xs) ys p q = (p.0, loose_both xs ys p.1 q)

-- ---- rows that are kept

keeps_all : (tables : List Table) (db : Trees) → KeepsRows tables db db
keeps_all [] db = tt
keeps_all (t ∷ ts) db = (refl, keeps_all ts db)

keeps_then : (tables : List Table) (a b c : Trees) → KeepsRows tables a b → KeepsRows tables b c → KeepsRows tables a c
keeps_then [] a b c p q = tt
keeps_then (t ∷ ts) a b c p q = (q.0 ∙ p.0, keeps_then ts a b c p.1 q.1)

-- a database gains none
pub gains_none : (which : Option Lacking) (db : Database) → which ≡ None → IsDatabase db → GainsIndexes which db db
gains_none which db none sound = record {
  more = [];
  lacked = subst (λ w. AreLacked w db.schema.tables []) (sym none) refl;
  loose = tt;
  is = ap (λ (xs : List Index). record db.schema { indexes = xs }) (sym (append-nil db.schema.indexes));
  rows = keeps_all db.schema.tables db.trees;
  sound = sound;
}

-- it gains the index that a text makes
pub record GainsOne (text : List ℕ) (old new : Database) : Type 0 where
  pub index : Index
  pub made : IsMadeBy text old.schema.tables index
  pub loose : index.is_unique ≡ false
  pub is : new.schema ≡ record old.schema { indexes = old.schema.indexes ++ (index ∷ []) }
  pub rows : KeepsRows old.schema.tables old.trees new.trees
  pub sound : IsDatabase new

pub gains_by_end : (old new : Database) → GainsOne MAKE_PLEDGES_BY_END.now old new → GainsIndexes (Some PledgesByEnd) old new
gains_by_end old new g = record {
  more = g.index ∷ [];
  lacked = (g.index, g.made, refl);
  loose = (g.loose, tt);
  is = g.is;
  rows = g.rows;
  sound = g.sound;
}

pub gains_by_time : (old new : Database) → GainsOne MAKE_BOOKINGS_BY_TIME.now old new → GainsIndexes (Some BookingsByTime) old new
gains_by_time old new g = record {
  more = g.index ∷ [];
  lacked = (g.index, g.made, refl);
  loose = (g.loose, tt);
  is = g.is;
  rows = g.rows;
  sound = g.sound;
}

-- one, and then the other
pub gains_both : (a b c : Database) → GainsOne MAKE_PLEDGES_BY_END.now a b → GainsOne MAKE_BOOKINGS_BY_TIME.now b c → GainsIndexes (Some Both) a c
gains_both a b c f g = record {
  more = f.index ∷ g.index ∷ [];
  lacked = (f.index, g.index, f.made, subst (λ (s : Schema). IsMadeBy MAKE_BOOKINGS_BY_TIME.now s.tables g.index) f.is g.made, refl);
  loose = (f.loose, (g.loose, tt));
  is = g.is ∙ ap (λ (s : Schema). record s { indexes = s.indexes ++ (g.index ∷ []) }) f.is
      ∙ ap (λ (xs : List Index). record a.schema { indexes = xs }) (append_assoc a.schema.indexes (f.index ∷ []) (g.index ∷ []));
  rows = keeps_then a.schema.tables a.trees b.trees c.trees f.rows (subst (λ (s : Schema). KeepsRows s.tables b.trees c.trees) f.is g.rows);
  sound = g.sound;
}

-- ---- the host

holds_still : (old new : Trees) (tree : ℕ) (t : Table) (rows : List Row) → new tree ≡ old tree → Holds old tree t rows → Holds new tree t rows
holds_still old new tree t rows same holds = record {
  same = subst (λ xs. IsPermutation rows (map (columns_of t) xs)) (sym same) holds.same;
  numbered = subst IsNumbered (sym same) holds.numbered;
}

-- tables whose trees are kept hold what they held
pub kept_tables : (tables : List Table) (old new : Trees) (listed : Listed) → KeepsRows tables old new
    → AllByRecursion (λ (t : Table). Holds old t.tree t (listed t.tree)) tables → AllByRecursion (λ (t : Table). Holds new t.tree t (listed t.tree)) tables
kept_tables [] old new listed kept holds = tt
kept_tables (t ∷ ts) old new listed kept holds = (holds_still old new t.tree t (listed t.tree) kept.0 holds.0, kept_tables ts old new listed kept.1 holds.1)

-- its schema has the indexes that were there, and those that it gained
more_indexes : {which : Option Lacking} (old new : Database) (more : List Index) (g : GainsIndexes which old new)
    → old.schema ≡ with_indexes more → new.schema ≡ with_indexes (more ++ g.more)
more_indexes old new more g is = g.is ∙ ap (λ (s : Schema). record s { indexes = s.indexes ++ g.more }) is
    ∙ ap (λ (xs : List Index). record keep_schema { indexes = xs }) (append_assoc keep_schema.indexes more g.more)

-- the tables list the rows that they listed
pub gains_lists : {which : Option Lacking} (old new : Database) (listed : Listed) → GainsIndexes which old new → ListsOurs old listed → ListsOurs new listed
gains_lists old new listed g st = let kept = subst (λ (s : Schema). KeepsRows s.tables old.trees new.trees) st.lists.schema_is g.rows in
    record {
      more = st.more ++ g.more;
      loose = loose_both st.more g.more st.loose g.loose;
      lists = record {
        schema_is = more_indexes old new st.more g st.lists.schema_is;
        sound = g.sound;
        tables = kept_tables keep_schema.tables old.trees new.trees listed kept st.lists.tables;
      };
    }

-- the tables stand for the host that they stood for
pub gains_stands : {which : Option Lacking} (old new : Database) (h : Host) → GainsIndexes which old new → StandsFor old h → StandsFor new h
gains_stands old new h g st = let more = st.schema.more in
    let kept = subst (λ (s : Schema). KeepsRows s.tables old.trees new.trees) st.schema.is g.rows in
    let still = holds_still old.trees new.trees in
    record {
      schema = record {
        more = more ++ g.more;
        loose = loose_both more g.more st.schema.loose g.loose;
        is = more_indexes old new more g st.schema.is;
      };
      sound = g.sound;
      books = still _ _ _ kept.0 st.books;
      terms = still _ _ _ kept.1.0 st.terms;
      pledges = still _ _ _ kept.1.1.0 st.pledges;
      entries = still _ _ _ kept.1.1.1.0 st.entries;
      secrets = still _ _ _ kept.1.1.1.1.0 st.secrets;
      bookings = still _ _ _ kept.1.1.1.1.1.0 st.bookings;
      meta = still _ _ _ kept.1.1.1.1.1.1.0 st.meta;
      totals = still _ _ _ kept.1.1.1.1.1.1.1.0 st.totals;
      extensions = still _ _ _ kept.1.1.1.1.1.1.1.1.0 st.extensions;
      ordered = st.ordered;
      storable = st.storable;
    }
