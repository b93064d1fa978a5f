-- Databases that have the program's tables and any further indexes.
use Rattle.pawn_tables.specs.Common.{AllByRecursion, Index, Schema, Listed, Lists}
use Rattle.pawn_tables.specs.Schema.{keep_schema}
use Rattle.sqlite.specs.Effect.{Database}
use Rattle.std.specs.Prelude.{◌≡◌, ◌++◌, false, List}

-- the program's schema with these indexes in addition to those of its keys
abbrev pub with_indexes : List Index → Schema
with_indexes more = record keep_schema { indexes = keep_schema.indexes ++ more }

-- none of the indexes is UNIQUE
abbrev pub AreLoose : List Index → Type 0
AreLoose more = AllByRecursion (λ (i : Index). i.is_unique ≡ false) more

-- The schema is the program's, with any further indexes of which none is UNIQUE.
pub record HasOurTables (schema : Schema) : Type 0 where
  pub more : List Index
  pub loose : AreLoose more
  pub is : schema ≡ with_indexes more

-- The database has such a schema and is valid under it, and its tables hold the listed rows.
pub record ListsOurs (db : Database) (listed : Listed) : Type 0 where
  pub more : List Index
  pub loose : AreLoose more
  pub lists : Lists (with_indexes more) db listed
