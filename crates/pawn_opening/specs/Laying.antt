-- Making tables, one after another.
use Rattle.pawn_opening.specs.Common.{Database, Row, Schema, HasCleanDisk, State, Listed, Lists, with_rows}
use Rattle.pawn_tables.specs.Schema.{keep_schema, meta_tree}
use Rattle.std.specs.Prelude.{ℕ, [], ◌∷◌, IsTrue, Result, OnOk}

-- no table has a row
abbrev pub no_rows : Listed
no_rows tree = []

-- the database has the tables of this schema, and they have no rows
abbrev pub AreEmpty : Schema → Database → Type 0
AreEmpty schema db = Lists schema db no_rows

-- within a transaction the call adds empty tables to empty tables, so that the schema `before` becomes `after`
abbrev pub Makes : {E : Type 0} → State → State → Result (Unit {0}) E → Schema → Schema → Type 0
Makes old new result before after = HasCleanDisk new → IsTrue old.in_transaction → AreEmpty before old.now → OnOk result (AreEmpty after new.now)

-- within a transaction the call adds an empty table, with this tree, to tables that may have rows, so that the schema
-- `before` becomes `after`
abbrev pub AddsTable : {E : Type 0} → State → State → Result (Unit {0}) E → Schema → Schema → ℕ → Type 0
AddsTable old new result before after tree =
    HasCleanDisk new → IsTrue old.in_transaction → (listed : Listed) → Lists before old.now listed
    → OnOk result (Lists after new.now (with_rows listed tree []))

-- within a transaction the call adds a row to meta
abbrev pub Notes : {E : Type 0} → State → State → Result (Unit {0}) E → Row → Type 0
Notes old new result row =
    HasCleanDisk new → IsTrue old.in_transaction → (listed : Listed) → Lists keep_schema old.now listed
    → OnOk result (Lists keep_schema new.now (with_rows listed meta_tree (row ∷ listed meta_tree)))
