-- Tables that stand for a host, and tables that list its rows.
use Rattle.pawn_base.proofs.ListLemmas.{◌&◌}
use Rattle.pawn_book.specs.TextsAndWords.{AreWords}
use Rattle.pawn_saving.proofs.Basics.{IsPermutation-refl, swapped}
use Rattle.pawn_saving.proofs.OurTables.{with_tables}
use Rattle.pawn_saving.specs.Common.{Database, AreSound, HasTextsAndWords, with_rows, ListsOurs}
use Rattle.pawn_saving.specs.Counted.{ListsHost}
use Rattle.pawn_tables.proofs.Basics.{IsPermutation-trans}
use Rattle.pawn_tables.proofs.NextEntries.{numbered_rise}
use Rattle.pawn_tables.proofs.SoundReads.{each_weaker}
use Rattle.pawn_tables.specs.Common.{Row, Table, Trees, IsReachable, Host, rows, Holds, Listed}
use Rattle.pawn_tables.specs.Entries.{RiseFrom}
use Rattle.pawn_tables.specs.Meta.{meta_row, other_rows}
use Rattle.pawn_tables.specs.Schema.{bookings_tree, books_tree, entries_tree, extensions_tree, meta_tree, pledges_tree}
use Rattle.pawn_tables.specs.Schema.{secrets_tree, terms_tree, totals_tree}
use Rattle.pawn_tables.specs.StandsFor.{AreBooksOrdered, AreStorable, HoldHost, StandsFor, listed_as}
use Rattle.pawn_terms.specs.Limits.{first_day}
use Rattle.std.proofs.Common.{◌≡◌, ◌≤◌, ℕ, List, [], ◌∷◌, codes, IsPermutation, subst, arith}

-- the tables that stand for a host list its rows, and count them
pub as_lists : (db : Database) (h : Host) → StandsFor db h → ListsHost db h (rows h)
as_lists db h st = record {
  more = st.schema.more;
  loose = st.schema.loose;
  lists = record {
    schema_is = st.schema.is;
    sound = st.sound;
    tables = (st.books, (st.terms, (st.pledges, (st.entries, (st.secrets, (st.bookings, (st.meta, (st.totals, (st.extensions, tt)))))))));
  };
}

pub as_stands : (db : Database) (h : Host) → ListsHost db h (rows h) → AreBooksOrdered h → AreStorable h → StandsFor db h
as_stands db h l ordered storable = record {
  schema = record { more = l.more; loose = l.loose; is = l.lists.schema_is };
  sound = l.lists.sound;
  books = l.lists.tables.0;
  terms = l.lists.tables.1.0;
  pledges = l.lists.tables.1.1.0;
  entries = l.lists.tables.1.1.1.0;
  secrets = l.lists.tables.1.1.1.1.0;
  bookings = l.lists.tables.1.1.1.1.1.0;
  meta = l.lists.tables.1.1.1.1.1.1.0;
  totals = l.lists.tables.1.1.1.1.1.1.1.0;
  extensions = l.lists.tables.1.1.1.1.1.1.1.1.0;
  ordered = ordered;
  storable = storable;
}

-- rows that are the same but for their order, tree by tree
pub record AreSame (a b : Listed) : Type 0 where
  pub books : IsPermutation (a books_tree) (b books_tree)
  pub terms : IsPermutation (a terms_tree) (b terms_tree)
  pub pledges : IsPermutation (a pledges_tree) (b pledges_tree)
  pub entries : IsPermutation (a entries_tree) (b entries_tree)
  pub secrets : IsPermutation (a secrets_tree) (b secrets_tree)
  pub bookings : IsPermutation (a bookings_tree) (b bookings_tree)
  pub meta : IsPermutation (a meta_tree) (b meta_tree)
  pub totals : IsPermutation (a totals_tree) (b totals_tree)
  pub extensions : IsPermutation (a extensions_tree) (b extensions_tree)

pub relisted : (db : Database) (a b : Listed) → AreSame a b → ListsOurs db b → ListsOurs db a
relisted db a b s l = let t = l.lists.tables in
    with_tables l (other s.books t.0 & other s.terms t.1.0 & other s.pledges t.1.1.0 & other s.entries t.1.1.1.0 & other s.secrets t.1.1.1.1.0
    & other s.bookings t.1.1.1.1.1.0 & other s.meta t.1.1.1.1.1.1.0 & other s.totals t.1.1.1.1.1.1.1.0 & other s.extensions t.1.1.1.1.1.1.1.1.0 & tt) where
      -- the same rows in another order
      other : {trees : Trees} {tree : ℕ} {t : Table} {xs ys : List Row} → IsPermutation xs ys → Holds trees tree t ys → Holds trees tree t xs
      other same holds = record { same = IsPermutation-trans _ _ _ same holds.same; numbered = holds.numbered }

pub relisted_by : (db : Database) (a b : Listed) → ((t : ℕ) → IsPermutation (a t) (b t)) → ListsOurs db b → ListsOurs db a
relisted_by db a b same l = relisted db a b (record {
  books = same books_tree;
  terms = same terms_tree;
  pledges = same pledges_tree;
  entries = same entries_tree;
  secrets = same secrets_tree;
  bookings = same bookings_tree;
  meta = same meta_tree;
  totals = same totals_tree;
  extensions = same extensions_tree;
}) l

-- trees of tables that stand for a host
pub held : (db : Database) (h : Host) → StandsFor db h → HoldHost db.trees h
held db h st = (db.schema, st)

-- ---- what rows cannot tell, of a host whose books are sound

pub are_ordered : (h : Host) → AreSound h → AreBooksOrdered h
are_ordered h sound b k is = let s = (sound b k is).1 in record {
  pledges = s.rows.numbered;
  entries = each_weaker IsReachable (λ p. RiseFrom 0 p.entries)
      (λ p reaches. numbered_rise 1 0 p.entries (omega arith) reaches.replayable.entered.numbered) k.pledges s.rows.reachable;
  under = s.rows.under;
}

pub are_storable : (h : Host) → AreSound h → AreStorable h
are_storable h sound b k is = let s = (sound b k is).1 in record {
  key = s.key;
  imported = s.imported;
  secrets = each_weaker HasTextsAndWords (λ p. AreWords p.secrets) (λ p written. written.secrets) k.pledges s.texts_and_words;
  taken = each_weaker HasTextsAndWords (λ p. first_day ≤ p.agreement.taken) (λ p written. written.taken.0) k.pledges s.texts_and_words;
  versions = let few = s.rows.few_terms in omega (arith, few);
}

-- the same rows with another count of them
pub recounted : (db : Database) (h : Host) (counted more told : ℕ) → told ≡ more
    → ListsOurs db (with_rows (listed_as h counted) 13 (meta_row (codes "rows") told ∷ other_rows h.limit)) → ListsHost db h more
recounted db h counted more told is l = subst (ListsHost db h) is (relisted db _ _ (record {
  books = IsPermutation-refl _;
  terms = IsPermutation-refl _;
  pledges = IsPermutation-refl _;
  entries = IsPermutation-refl _;
  secrets = IsPermutation-refl _;
  bookings = IsPermutation-refl _;
  meta = swapped (meta_row (codes "schema") 3) (meta_row (codes "rows") told) (meta_row (codes "limit") h.limit ∷ []);
  totals = IsPermutation-refl _;
  extensions = IsPermutation-refl _;
}) l)
