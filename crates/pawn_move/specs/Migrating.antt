-- The contracts of reading a store's schema and of migrating a store to the program's.
use Rattle.pawn_move.specs.Moving.{AreAllOwed}
use Rattle.pawn_move.specs.StandsUnder.{IsSchema, StandsUnder}
use Rattle.pawn_move.specs.declared.fault.MoveFault.{MoveFault}
use Rattle.pawn_move.specs.declared.fault.MoveFault.TheVariants.{NotOurs, NewerSchema, Damaged, Store, Memory}
use Rattle.pawn_opening.specs.Common.{HasCleanDisk, State, Trees, Host, HoldHost}
use Rattle.pawn_opening.specs.Indexing.{GainsIndexes, HasBothIndexes, lacking}
use Rattle.pawn_opening.specs.Opened.{IsAsBefore, OpensAs}
use Rattle.pawn_opening.specs.Refusing.{IsEmptyStore, NotesNoSchema, NotesSchema}
use Rattle.pawn_opening.specs.declared.fault.OpenFault.{OpenFault}
use Rattle.pawn_tables.specs.Common.{get, Tables, HasUnsoundBook, KeepError, Database, NoRecord}
use Rattle.pawn_tables.specs.Finding.{Finds}
use Rattle.sqlite.specs.State.{Survives}
use Rattle.std.specs.Prelude.{◌≡◌, ◌⊎◌, ◌<◌, false, ℕ, Option, Some, None, IsTrue, Result, Ok, Err, IfErr, IfOk, OnErr}
use Rattle.std.specs.Prelude.{OnOk}
use Rattle.pawn_book.specs.declared.fault.KeepError.TheVariants as Keeper
use Rattle.pawn_opening.specs.declared.fault.OpenFault.TheVariants as Opening

-- ---- why a store is not migrated

-- every host that the tables stand for, under any of the schemas, has a book that is not sound
abbrev pub StandsForNoSound : Tables → Type 0
StandsForNoSound db = (n : ℕ) (h : Host) → IsSchema n → StandsUnder n db h → HasUnsoundBook h

-- what holds of the tables of a store whose schema is not reported, for this reason
abbrev pub HasNoKnownSchema : Tables → MoveFault → Type 0
HasNoKnownSchema db NotOurs = NotesNoSchema db ⊎ NotesSchema db 0
HasNoKnownSchema db NewerSchema = (n : ℕ) × NotesSchema db n × (3 < n)
HasNoKnownSchema db Damaged = ⊥
HasNoKnownSchema db Store = Unit {0}
HasNoKnownSchema db Memory = Unit {0}

-- what holds of the tables of a store that is not migrated, for this reason; the reason is Damaged only if the store
-- notes one of the program's schemas 1 to 3, and stands for no sound host
abbrev pub IsUnmovable : Tables → MoveFault → Type 0
IsUnmovable db Damaged = ((n : ℕ) × NotesSchema db n × IsSchema n) × StandsForNoSound db
IsUnmovable db why = HasNoKnownSchema db why

-- the fault is Store or Memory, which state nothing about the content of the store
abbrev pub IsFailure : MoveFault → Type 0
IsFailure NotOurs = ⊥
IsFailure NewerSchema = ⊥
IsFailure Damaged = ⊥
IsFailure Store = Unit {0}
IsFailure Memory = Unit {0}

-- the answer for an empty store: NotOurs, or Store or Memory
abbrev pub IsNotOurs : {A : Type 0} → Result A MoveFault → Type 0
IsNotOurs (Ok answer) = ⊥
IsNotOurs (Err NotOurs) = Unit {0}
IsNotOurs (Err why) = IsFailure why

-- a fault of opening, of reading the schema or of closing as a fault of a migration
abbrev pub fault_of_opening : OpenFault → MoveFault
fault_of_opening Opening.Memory = Memory
fault_of_opening Opening.Store = Store
fault_of_opening Opening.NotOurs = Store
fault_of_opening (Opening.OldSchema n) = Store

-- an error within the transaction as a fault of a migration
abbrev pub move_fault_of : KeepError → MoveFault
move_fault_of Keeper.Memory = Memory
move_fault_of (Keeper.Store NoRecord) = Damaged
move_fault_of (Keeper.Store Database) = Store

-- ---- the schema that is reported

-- the answer for tables that stand for a host under schema n: n, or Store or Memory
abbrev pub IsSameNumber : ℕ → Result ℕ MoveFault → Type 0
IsSameNumber n (Ok m) = m ≡ n
IsSameNumber n (Err why) = IsFailure why

-- the result of checking the number that a store notes
abbrev pub KnowsSchema : Option ℕ → Result ℕ MoveFault → Type 0
KnowsSchema noted (Ok n) = (noted ≡ Some n) × IsSchema n
KnowsSchema noted (Err NotOurs) = (noted ≡ None) ⊎ (noted ≡ Some 0)
KnowsSchema noted (Err NewerSchema) = (n : ℕ) × (noted ≡ Some n) × (3 < n)
KnowsSchema noted (Err Damaged) = ⊥
KnowsSchema noted (Err Store) = ⊥
KnowsSchema noted (Err Memory) = ⊥

-- the answer is the number of the store's schema, and the store is as before
pub record StatesNumber (old new : State) (result : Result ℕ MoveFault) : Type 0 where
  pub known : IfOk result IsSchema
  pub ok : HasCleanDisk new → IfOk result (λ n. NotesSchema old.now n × IsTrue new.is_open)
  pub stands : HasCleanDisk new → (n : ℕ) (h : Host) → IsSchema n → StandsUnder n old.now h → IsSameNumber n result
  pub refused : HasCleanDisk new → IfErr result (HasNoKnownSchema old.now)
  pub empty : HasCleanDisk new → IsEmptyStore old.now → IsNotOurs result
  pub same : HasCleanDisk new → IsAsBefore old new
  pub ended : new.in_transaction ≡ false
  pub survives : Survives old new (λ _. ⊥)

-- ---- the store that is migrated

-- The answer for tables that stand for a host under schema n. Ok: the answer is n and 3, and the store is open for the
-- same host under the program's schema, with no transaction under way. Damaged: the host has a book that is not sound.
-- Otherwise Store or Memory.
abbrev pub IsMoved : ℕ → Host → State → Result (ℕ × ℕ) MoveFault → Type 0
IsMoved n h new (Ok answer) = (answer ≡ (n, 3)) × OpensAs new h
IsMoved n h new (Err NotOurs) = ⊥
IsMoved n h new (Err NewerSchema) = ⊥
IsMoved n h new (Err Damaged) = HasUnsoundBook h
IsMoved n h new (Err Store) = Unit {0}
IsMoved n h new (Err Memory) = Unit {0}

-- the trees stand, under the program's schema, for each host without a book 0 that the old tables stand for under any
-- of the schemas
abbrev pub HoldSameHost : Tables → Trees → Type 0
HoldSameHost old trees = (n : ℕ) (h : Host) → IsSchema n → get h.books 0 ≡ None → StandsUnder n old h → HoldHost trees h

-- The contract of `migrate`: a store of schema 1, 2 or 3 is migrated to 3, in one transaction. After a success it is
-- open, with no transaction under way, for the host that its tables stood for, if no book of the host has the number 0.
-- After an error it is as before. A crash leaves the old tables or the new ones.
pub record Migrates (old new : State) (result : Result (ℕ × ℕ) MoveFault) : Type 0 where
  pub found : HasCleanDisk new → IfOk result (λ answer. NotesSchema old.now answer.0 × IsSchema answer.0 × (answer.1 ≡ 3))
  pub moved : HasCleanDisk new → (n : ℕ) (h : Host) → IsSchema n → get h.books 0 ≡ None → StandsUnder n old.now h → IsMoved n h new result
  pub refused : HasCleanDisk new → IfErr result (IsUnmovable old.now)
  pub empty : HasCleanDisk new → IsEmptyStore old.now → IsNotOurs result
  pub err : HasCleanDisk new → OnErr result (IsAsBefore old new)
  pub ended : new.in_transaction ≡ false
  pub survives : Survives old new (HoldSameHost old.now)
  -- a crash leaves the last commit, or tables of the program's schema for the same host
  pub crash : HasCleanDisk new → IsTrue old.is_open → (trees : Trees) → new.may_leave trees → (trees ≡ old.committed.trees) ⊎ HoldSameHost old.now trees

-- tables of an older schema are migrated only if every debt of the host is reachable
abbrev pub MigratesOwed : State → State → Result (ℕ × ℕ) MoveFault → Type 0
MigratesOwed old new result =
    HasCleanDisk new → (n : ℕ) (h : Host) → IsSchema n → n < 3 → get h.books 0 ≡ None → StandsUnder n old.now h → IfOk result (λ answer. AreAllOwed h)

-- A store of the program's schema gains the indexes that it lacked, and nothing else. A store of an older schema that
-- stands for a host then has both indexes of the program, and no others but those of the keys.
abbrev pub MigratesIndexed : State → State → Result (ℕ × ℕ) MoveFault → Type 0
MigratesIndexed old new result =
    HasCleanDisk new → IfOk result (λ answer. (answer.0 ≡ 3 → GainsIndexes (lacking old.now.schema) old.now new.now)
    × ((n : ℕ) (h : Host) → IsSchema n → n < 3 → get h.books 0 ≡ None → StandsUnder n old.now h → HasBothIndexes new.now.schema))

-- ---- the transaction

-- the trees stand, under the program's schema, for each host without a book 0 that the old tables stand for under
-- schema n
abbrev pub HoldMoved : ℕ → State → Trees → Type 0
HoldMoved n old trees = (h : Host) → get h.books 0 ≡ None → StandsUnder n old.now h → HoldHost trees h

-- A store of schema n is migrated in one transaction. After a success it is open, with no transaction under way, for
-- the host that its tables stood for. After an error it is as before; NoRecord is answered only for a host with a book
-- that is not sound. A crash leaves the old tables or the new ones.
pub record MovesStore (n : ℕ) (old new : State) (result : Result (Unit {0}) KeepError) : Type 0 where
  pub moved : HasCleanDisk new → (h : Host) → get h.books 0 ≡ None → StandsUnder n old.now h → Finds result (λ done. OpensAs new h) (HasUnsoundBook h)
  pub err : HasCleanDisk new → OnErr result (IsAsBefore old new)
  pub ended : new.in_transaction ≡ false
  pub survives : Survives old new (HoldMoved n old)

-- a store of schema n is migrated only if every debt of the host is reachable
abbrev pub MovesStoreOwed : ℕ → State → State → Result (Unit {0}) KeepError → Type 0
MovesStoreOwed n old new result =
    HasCleanDisk new → (h : Host) → get h.books 0 ≡ None → StandsUnder n old.now h → OnOk result (AreAllOwed h)

-- a store of schema n is migrated to one that has both indexes of the program, and no others but those of the keys
abbrev pub MovesStoreIndexed : ℕ → State → State → Result (Unit {0}) KeepError → Type 0
MovesStoreIndexed n old new result =
    HasCleanDisk new → (h : Host) → get h.books 0 ≡ None → StandsUnder n old.now h → OnOk result (HasBothIndexes new.now.schema)
