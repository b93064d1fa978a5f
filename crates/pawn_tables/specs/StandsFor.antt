-- The relation *stands for*: when tables represent a host.
use Rattle.pawn_tables.specs.Common.{entries, get, Row, Schema, Table, Trees, PledgeValue, Each, BookValue, Host, rows}
use Rattle.pawn_tables.specs.Common.{AreNumberedFrom, IsUnder, AreWords, IsWord, Holds, Listed}
use Rattle.pawn_tables.specs.Entries.{RiseFrom}
use Rattle.pawn_tables.specs.Meta.{meta_rows}
use Rattle.pawn_tables.specs.Ours.{HasOurTables}
use Rattle.pawn_tables.specs.Rows.{book_row, terms_listed, pledge_listed, entries_listed, secrets_listed}
use Rattle.pawn_tables.specs.Rows.{booking_listed, totals_listed, extensions_listed}
use Rattle.pawn_tables.specs.Schema.{books, terms, pledges, entries as entries_table, secrets, bookings, meta, totals}
use Rattle.pawn_tables.specs.Schema.{extensions, bookings_tree, books_tree, entries_tree, extensions_tree, meta_tree}
use Rattle.pawn_tables.specs.Schema.{pledges_tree, secrets_tree, terms_tree, totals_tree}
use Rattle.pawn_terms.specs.Limits.{first_day}
use Rattle.sqlite.specs.Effect.{Database, IsDatabase}
use Rattle.std.specs.Prelude.{ℕ, ◌≡◌, ◌==◌, ◌≤◌, ◌<◌, ◌^◌, if◌then◌else◌, List, [], length, map, flat_map, Some, IfSome}

-- the rows of all books together
abbrev pub of_books : Host → (ℕ → BookValue → List Row) → List Row
of_books h rows_of = flat_map (λ (e : ℕ × BookValue). rows_of e.0 e.1) (entries h.books)

-- the rows of all pledges of all books together
abbrev pub of_pledges : Host → (ℕ → PledgeValue → List Row) → List Row
of_pledges h rows_of = of_books h (λ b k. flat_map (rows_of b) k.pledges)

-- A book that can be read back in the order of its primary keys: its pledges are numbered 1, 2, .., and the numbers of each
-- pledge's entries rise. The terms of each pledge are the book's terms under its version.
pub record IsOrdered (k : BookValue) : Type 0 where
  pub pledges : AreNumberedFrom 1 k.pledges
  pub entries : Each (λ p. RiseFrom 0 p.entries) k.pledges
  pub under : Each (IsUnder k.terms) k.pledges

-- A book that rows can hold: its keys and secrets have 128 bits, no pledge was taken before the first day of the
-- calendar, and it has fewer than 2^32 versions of terms.
pub record IsStorable (k : BookValue) : Type 0 where
  pub key : IsWord k.key
  pub imported : IfSome k.imported (λ i. IsWord i.key)
  pub secrets : Each (λ p. AreWords p.secrets) k.pledges
  pub taken : Each (λ p. first_day ≤ p.agreement.taken) k.pledges
  pub versions : length k.terms < 2 ^ 32

abbrev pub AreBooksOrdered : Host → Type 0
AreBooksOrdered h = (b : ℕ) (k : BookValue) → get h.books b ≡ Some k → IsOrdered k

abbrev pub AreStorable : Host → Type 0
AreStorable h = (b : ℕ) (k : BookValue) → get h.books b ≡ Some k → IsStorable k

-- the rows of a host by the tree of their table, where meta notes the given count of counted rows
abbrev pub listed_as : Host → ℕ → Listed
listed_as h counted t =
    if t == books_tree then map (λ (e : ℕ × BookValue). book_row e.0 e.1) (entries h.books)
    else if t == terms_tree then of_books h terms_listed
    else if t == pledges_tree then of_pledges h pledge_listed
    else if t == entries_tree then of_pledges h entries_listed
    else if t == secrets_tree then of_pledges h secrets_listed
    else if t == bookings_tree then of_pledges h booking_listed
    else if t == meta_tree then meta_rows counted h.limit
    else if t == totals_tree then of_pledges h totals_listed
    else if t == extensions_tree then of_pledges h extensions_listed
    else []

-- the table of this tree holds the host's rows, and meta notes their count
abbrev pub HoldsTable : Trees → Host → ℕ → Table → Type 0
HoldsTable trees h tree table = Holds trees tree (record table { tree = tree }) (listed_as h (rows h) tree)

-- The tables of books, terms, pledges and entries hold the rows of the host; the other tables may hold anything.
pub record ListDebts (db : Database) (h : Host) : Type 0 where
  pub schema : HasOurTables db.schema
  pub books : HoldsTable db.trees h books_tree books
  pub terms : HoldsTable db.trees h terms_tree terms
  pub pledges : HoldsTable db.trees h pledges_tree pledges
  pub entries : HoldsTable db.trees h entries_tree entries_table
  pub ordered : AreBooksOrdered h
  pub storable : AreStorable h

-- The tables hold the rows of the host, and note the number of the schema, how many counted rows there are, and the
-- limit.
pub record StandsFor (db : Database) (h : Host) : Type 0 where
  pub schema : HasOurTables db.schema
  -- the database is valid under its schema
  pub sound : IsDatabase db
  pub books : HoldsTable db.trees h books_tree books
  pub terms : HoldsTable db.trees h terms_tree terms
  pub pledges : HoldsTable db.trees h pledges_tree pledges
  pub entries : HoldsTable db.trees h entries_tree entries_table
  pub secrets : HoldsTable db.trees h secrets_tree secrets
  pub bookings : HoldsTable db.trees h bookings_tree bookings
  pub meta : HoldsTable db.trees h meta_tree meta
  pub totals : HoldsTable db.trees h totals_tree totals
  pub extensions : HoldsTable db.trees h extensions_tree extensions
  -- conditions on the host itself
  pub ordered : AreBooksOrdered h
  pub storable : AreStorable h

-- the trees, under some schema, stand for the host
abbrev pub HoldHost : Trees → Host → Type 0
HoldHost trees h = (schema : Schema) × StandsFor (record { schema = schema; trees = trees }) h
