-- The program's indexes: which of them a store lacks, and how it gains them.
use Rattle.pawn_opening.specs.Common.{KeepsRows, Index, Database, IsDatabase, HasCleanDisk, Schema, State, Table, Trees}
use Rattle.pawn_opening.specs.Common.{AreLoose, with_indexes}
use Rattle.pawn_opening.specs.declared.indexing.Lacking.{Lacking}
use Rattle.pawn_opening.specs.declared.indexing.Lacking.TheVariants.{PledgesByEnd, BookingsByTime, Both}
use Rattle.pawn_tables.specs.Schema.{keep_schema}
use Rattle.pawn_tables.specs.declared.texts.TheConstants.{MAKE_BOOKINGS_BY_TIME, MAKE_PLEDGES_BY_END}
use Rattle.sqlite.specs.Compile.{index_defined_by}
use Rattle.sqlite_schema.specs.Names.{index_named}
use Rattle.std.specs.Prelude.{◌≡◌, ◌++◌, ℕ, Bool, true, false, List, [], ◌∷◌, codes, Option, Some, None, is_some, OnOk}
use Rattle.std.specs.Prelude.{Ok, IsTrue, Result, slice_get}

-- ---- indexes that a store lacks

-- which indexes are missing; the arguments state whether there is an index for periods' ends, and one for bookings
abbrev pub lacking_by : Bool → Bool → Option Lacking
lacking_by true true = None
lacking_by false true = Some PledgesByEnd
lacking_by true false = Some BookingsByTime
lacking_by false false = Some Both

-- which of the program's indexes a schema lacks; any index of the same name counts, whatever it indexes
abbrev pub lacking : Schema → Option Lacking
lacking schema = lacking_by (is_some (index_named schema (codes "pledges_by_end"))) (is_some (index_named schema (codes "bookings_by_time")))

-- ---- indexes that a store gains

-- the index is the one that the statement's text defines over one of these tables
pub record IsMadeBy (text : List ℕ) (tables : List Table) (index : Index) : Type 0 where
  pub place : ℕ
  pub table : Table
  pub of : slice_get tables place ≡ Some table
  pub meaning : Index
  pub defined : index_defined_by table text ≡ Ok meaning
  pub is : index ≡ record meaning { tree = index.tree; table = table.tree }

-- the index of pledges by the day on which their period ends
abbrev pub IsByEnd : List Table → Index → Type 0
IsByEnd = IsMadeBy MAKE_PLEDGES_BY_END.now

-- the index of bookings by their day
abbrev pub IsByTime : List Table → Index → Type 0
IsByTime = IsMadeBy MAKE_BOOKINGS_BY_TIME.now

-- these are exactly the program's indexes that are lacking
abbrev pub AreLacked : Option Lacking → List Table → List Index → Type 0
AreLacked None tables more = more ≡ []
AreLacked (Some PledgesByEnd) tables more = (i : Index) × IsByEnd tables i × (more ≡ i ∷ [])
AreLacked (Some BookingsByTime) tables more = (i : Index) × IsByTime tables i × (more ≡ i ∷ [])
AreLacked (Some Both) tables more = (i : Index) × (j : Index) × IsByEnd tables i × IsByTime tables j × (more ≡ i ∷ j ∷ [])

-- The database has gained the indexes that it lacked, none of them UNIQUE, and nothing else. Its tables and views are
-- as before, and each table has the same rows.
pub record GainsIndexes (which : Option Lacking) (old new : Database) : Type 0 where
  pub more : List Index
  pub lacked : AreLacked which old.schema.tables more
  pub loose : AreLoose more
  pub is : new.schema ≡ record old.schema { indexes = old.schema.indexes ++ more }
  pub rows : KeepsRows old.schema.tables old.trees new.trees
  pub sound : IsDatabase new

-- the trees are those of the database after it has gained the indexes that it lacked
abbrev pub HoldGained : Database → Trees → Type 0
HoldGained db trees = (after : Database) × GainsIndexes (lacking db.schema) db after × (trees ≡ after.trees)

-- within a transaction the call adds these indexes, and nothing else
abbrev pub AddsIndexes : {E : Type 0} → Lacking → State → State → Result (Unit {0}) E → Type 0
AddsIndexes which old new result =
    HasCleanDisk new → IsTrue old.in_transaction → OnOk result (GainsIndexes (Some which) old.now new.now)

-- the schema is the program's with its two indexes and no others
abbrev pub HasBothIndexes : Schema → Type 0
HasBothIndexes schema = (more : List Index) × AreLacked (Some Both) keep_schema.tables more × (schema ≡ with_indexes more)
