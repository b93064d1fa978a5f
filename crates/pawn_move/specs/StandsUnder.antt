-- When tables stand for a host under one of the schemas 1 to 3.
use Rattle.pawn_opening.specs.Common.{Host, rows, Listed, Lists, with_rows, notes, ListsOurs, StandsFor}
use Rattle.pawn_tables.specs.Common.{get, Each, BookValue}
use Rattle.pawn_tables.specs.Schema.{first_schema, meta_tree, second_schema}
use Rattle.pawn_tables.specs.StandsFor.{AreBooksOrdered, AreStorable, listed_as}
use Rattle.sqlite.specs.Effect.{Database}
use Rattle.std.specs.Prelude.{◌≡◌, ◌≤◌, ◌<◌, ◌==◌, ℕ, Bool, true, false, [], Some}

-- the number of a schema; the program's is 3
abbrev pub IsSchema : ℕ → Type 0
IsSchema n = (1 ≤ n) × (n ≤ 3)

-- the tables hold these rows, under the first schema, the second, or otherwise the program's
abbrev pub ListsBy : Bool → Bool → Database → Listed → Type 0
ListsBy true second db listed = Lists first_schema db listed
ListsBy false true db listed = Lists second_schema db listed
ListsBy false false db listed = ListsOurs db listed

-- the rows of a host by the tree of their table, with the number n of a schema noted
abbrev pub listed_under : ℕ → Host → Listed
listed_under n h = with_rows (listed_as h (rows h)) meta_tree (notes n (rows h) h.limit)

-- no pledge has an extension
abbrev pub HasNoExtension : Host → Type 0
HasNoExtension h = (b : ℕ) (k : BookValue) → get h.books b ≡ Some k → Each (λ p. p.extensions ≡ []) k.pledges

-- The tables of schema n hold the rows of the host, and note n, how many counted rows there are, and the limit.
pub record StandsUnder (n : ℕ) (db : Database) (h : Host) : Type 0 where
  pub lists : ListsBy (n == 1) (n == 2) db (listed_under n h)
  -- an older schema has no table of extensions
  pub unextended : n < 3 → HasNoExtension h
  -- conditions on the host itself
  pub ordered : AreBooksOrdered h
  pub storable : AreStorable h

-- tables stand for a host if and only if they stand for it under the third schema
pub record ThirdIsOurs : Type 0 where
  pub ours : (db : Database) (h : Host) → StandsFor db h → StandsUnder 3 db h
  pub third : (db : Database) (h : Host) → StandsUnder 3 db h → StandsFor db h
