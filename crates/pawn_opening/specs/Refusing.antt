-- Why a store is refused.
use Rattle.pawn_opening.specs.Common.{Compiled, CompileError, Database, understood, Row, column, Int, no_schema}
use Rattle.pawn_opening.specs.Common.{READ_SCHEMA}
use Rattle.pawn_opening.specs.declared.fault.OpenFault.{OpenFault}
use Rattle.pawn_opening.specs.declared.fault.OpenFault.TheVariants.{NotOurs, OldSchema, Store, Memory}
use Rattle.sqlite.specs.Effect.{Reads}
use Rattle.sqlite.specs.Listing.{IsSourceOf, reads_listing}
use Rattle.std.specs.Prelude.{◌≡◌, ◌⊎◌, ◌<◌, ℕ, pos, List, [], ◌∷◌, Option, Some, None, Result, Ok, Err}

-- the query for the schema's number returns these rows
pub record AnswersOpening (db : Database) (rows : List Row) : Type 0 where
  pub means : Compiled
  pub is_understood : understood db.schema READ_SCHEMA.now ≡ Ok means
  pub source : Database
  pub from : IsSourceOf (reads_listing db.schema READ_SCHEMA.now) db source
  pub reads : Reads means.command source [] rows

-- the query cannot be compiled
abbrev pub HasNoAnswer : Database → Type 0
HasNoAnswer db = (fault : CompileError) × (understood db.schema READ_SCHEMA.now ≡ Err fault)

-- the answer is a single row that begins with this number
abbrev pub IsOneNumber : List Row → ℕ → Type 0
IsOneNumber rows n = (row : Row) × (rows ≡ row ∷ []) × (column row 0 ≡ Int (pos n))

-- the store notes this number as that of its schema
abbrev pub NotesSchema : Database → ℕ → Type 0
NotesSchema db n = (rows : List Row) × AnswersOpening db rows × IsOneNumber rows n

-- the store notes no number of a schema
abbrev pub NotesNoSchema : Database → Type 0
NotesNoSchema db = HasNoAnswer db ⊎ ((rows : List Row) × AnswersOpening db rows × ((n : ℕ) → IsOneNumber rows n → ⊥))

-- the number that the store notes, if it notes one
abbrev pub IsNoted : Database → Option ℕ → Type 0
IsNoted db None = NotesNoSchema db
IsNoted db (Some n) = NotesSchema db n

-- the number is 0, or that of a newer schema than the program's
abbrev pub IsStrangeNumber : ℕ → Type 0
IsStrangeNumber n = (n ≡ 0) ⊎ (3 < n)

-- the store notes no number, 0, or that of a newer schema
abbrev pub IsStrange : Database → Type 0
IsStrange db = NotesNoSchema db ⊎ ((n : ℕ) × NotesSchema db n × IsStrangeNumber n)

-- the store has no table, index or view
abbrev pub IsEmptyStore : Database → Type 0
IsEmptyStore db = db.schema ≡ no_schema

-- the fault is Store or Memory, which state nothing about the content of the store
abbrev pub IsStoreFault : OpenFault → Type 0
IsStoreFault NotOurs = ⊥
IsStoreFault (OldSchema n) = ⊥
IsStoreFault Store = Unit {0}
IsStoreFault Memory = Unit {0}

-- what holds of the database of a store that is refused for this reason
abbrev pub IsRefusedFor : Database → OpenFault → Type 0
IsRefusedFor db NotOurs = (IsEmptyStore db → ⊥) × IsStrange db
IsRefusedFor db (OldSchema n) = NotesSchema db n × (0 < n) × (n < 3)
IsRefusedFor db Store = Unit {0}
IsRefusedFor db Memory = Unit {0}

-- the result of reading a number from an answer's rows
abbrev pub IsNumberRead : List Row → Result (Option ℕ) OpenFault → Type 0
IsNumberRead rows (Ok None) = (n : ℕ) → IsOneNumber rows n → ⊥
IsNumberRead rows (Ok (Some n)) = IsOneNumber rows n
IsNumberRead rows (Err why) = IsStoreFault why

-- the result of checking the noted number: only 3, the number of the program's schema, is accepted
abbrev pub AcceptsSchema : Option ℕ → Result (Unit {0}) OpenFault → Type 0
AcceptsSchema noted (Ok ours) = noted ≡ Some 3
AcceptsSchema noted (Err NotOurs) = (noted ≡ None) ⊎ ((n : ℕ) × (noted ≡ Some n) × IsStrangeNumber n)
AcceptsSchema noted (Err (OldSchema n)) = (noted ≡ Some n) × (0 < n) × (n < 3)
AcceptsSchema noted (Err Store) = ⊥
AcceptsSchema noted (Err Memory) = ⊥
