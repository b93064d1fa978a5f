-- Opening: what it does with an empty store, with one that notes the program's schema, and with any other.
use Rattle.pawn_opening.specs.Common.{Database, HasCleanDisk, State, Trees, Host, no_schema, HoldHost, StandsFor}
use Rattle.pawn_opening.specs.Indexing.{GainsIndexes, HasBothIndexes, HoldGained, lacking}
use Rattle.pawn_opening.specs.Laying.{AreEmpty}
use Rattle.pawn_opening.specs.Refusing.{IsEmptyStore, IsNoted, IsRefusedFor, IsStoreFault, NotesSchema}
use Rattle.pawn_opening.specs.declared.fault.OpenFault.{OpenFault}
use Rattle.pawn_tables.specs.Keeps.{Keeps, Leaves}
use Rattle.sqlite.specs.State.{Survives}
use Rattle.std.specs.FinMap.{empty}
use Rattle.std.specs.Prelude.{◌≡◌, ◌⊎◌, false, ℕ, IsTrue, Option, IfSome, Result, IfErr, IfOk, OnErr, OnOk}

-- the host without books
abbrev pub empty_host : ℕ → Host
empty_host limit = record { books = empty; limit = limit }

-- within a transaction an empty store gets the tables of the empty host with this limit, and the program's indexes
abbrev pub MakesFirstContent : {E : Type 0} → State → State → ℕ → Result (Unit {0}) E → Type 0
MakesFirstContent old new limit result = HasCleanDisk new → IsTrue old.in_transaction → AreEmpty no_schema old.now
    → OnOk result (StandsFor new.now (empty_host limit) × HasBothIndexes new.now.schema)

-- The store is open, no transaction is under way, and it stands for this host. Everything that a crash can leave of it
-- stands for this host and for no other.
pub record OpensAs (s : State) (h : Host) : Type 0 where
  pub usable : IsTrue s.is_open
  pub keeps : Keeps s h
  pub crash : (trees : Trees) → s.may_leave trees → HoldHost trees h
  pub alone : (left : Host) → Leaves s left → left ≡ h

-- the content of the store is as before, unless a fault has shut it
pub record IsAsBefore (old new : State) : Type 0 where
  pub was_open : IsTrue new.is_open → IsTrue old.is_open
  pub now : IsTrue new.is_open → new.now ≡ old.now
  pub committed : IsTrue new.is_open → new.committed ≡ old.committed

-- An empty store gets the tables of the empty host, or is as before if the call fails. A crash leaves the one or the
-- other.
pub record LaysOut (old new : State) (limit : ℕ) (result : Result (Unit {0}) OpenFault) : Type 0 where
  pub ok : HasCleanDisk new → IsEmptyStore old.now → OnOk result (OpensAs new (empty_host limit) × HasBothIndexes new.now.schema)
  pub err : HasCleanDisk new → OnErr result (IsAsBefore old new)
  pub why : IfErr result IsStoreFault
  pub ended : new.in_transaction ≡ false
  pub survives : Survives old new (λ trees. IsEmptyStore old.now → HoldHost trees (empty_host limit))

-- the answer is the number of the schema that the store notes, and the store is as before
pub record StatesSchema (old new : State) (result : Result (Option ℕ) OpenFault) : Type 0 where
  pub same : HasCleanDisk new → IsAsBefore old new
  pub ok : HasCleanDisk new → IfOk result (IsNoted old.now)
  -- if a number is returned, the store is open
  pub usable : HasCleanDisk new → IfOk result (λ noted. IfSome noted (λ n. IsTrue new.is_open))
  pub why : IfErr result IsStoreFault
  pub ended : new.in_transaction ≡ false
  pub survives : Survives old new (λ _. ⊥)

-- a store that is not empty is accepted only if it notes the program's schema; it is as before
pub record Recognises (old new : State) (result : Result (Unit {0}) OpenFault) : Type 0 where
  pub same : HasCleanDisk new → IsAsBefore old new
  pub ok : HasCleanDisk new → OnOk result (IsTrue new.is_open × NotesSchema old.now 3)
  pub err : HasCleanDisk new → (IsEmptyStore old.now → ⊥) → IfErr result (IsRefusedFor old.now)
  pub ended : new.in_transaction ≡ false
  pub survives : Survives old new (λ _. ⊥)

-- the store is open, and has committed the indexes that it lacked
abbrev pub IsIndexed : State → State → Type 0
IsIndexed old new = IsTrue new.is_open × GainsIndexes (lacking old.now.schema) old.now new.now × (new.now ≡ new.committed)

-- A store gets the indexes that it lacks, or is as before if the call fails. A crash leaves the one or the other.
pub record IndexesStore (old new : State) (result : Result (Unit {0}) OpenFault) : Type 0 where
  pub ok : HasCleanDisk new → IsTrue old.is_open → OnOk result (IsIndexed old new)
  pub err : HasCleanDisk new → OnErr result (IsAsBefore old new)
  pub why : IfErr result IsStoreFault
  pub ended : new.in_transaction ≡ false
  pub survives : Survives old new (HoldGained old.now)

-- A store is opened only if it is empty, and then gets the program's tables and indexes; or if it notes the program's
-- schema, and then gets the indexes that it lacks.
abbrev pub IsOpenable : State → State → Type 0
IsOpenable old new = (IsEmptyStore old.now × HasBothIndexes new.now.schema) ⊎ (NotesSchema old.now 3 × IsIndexed old new)

-- the trees that opening makes: those of the empty host if the store is empty; those of the database with the indexes
-- that it lacks if it notes the program's schema
abbrev pub AreMadeOf : Database → ℕ → Trees → Type 0
AreMadeOf db limit trees = (IsEmptyStore db × HoldHost trees (empty_host limit)) ⊎ (NotesSchema db 3 × HoldGained db trees)

-- The contract of `prepare`. An empty store gets the tables of the empty host with this limit. A store that notes the
-- program's schema gets the indexes that it lacks, and is open for its host, if it stands for one. Any other store is
-- refused, and is as before. A crash meanwhile leaves the store as before, or with what the opening made.
pub record Prepares (old new : State) (limit : ℕ) (result : Result (Unit {0}) OpenFault) : Type 0 where
  pub opens : HasCleanDisk new → OnOk result (IsOpenable old new)
  pub new_store : HasCleanDisk new → IsEmptyStore old.now → OnOk result (OpensAs new (empty_host limit))
  pub stands : HasCleanDisk new → (h : Host) → StandsFor old.now h → OnOk result (OpensAs new h)
  -- an empty store, or one that stands for a host, is refused only by Store or Memory
  pub bare : HasCleanDisk new → IsEmptyStore old.now → IfErr result IsStoreFault
  pub ours : HasCleanDisk new → (h : Host) → StandsFor old.now h → IfErr result IsStoreFault
  pub refused : HasCleanDisk new → IfErr result (IsRefusedFor old.now)
  pub err : HasCleanDisk new → OnErr result (IsAsBefore old new)
  pub ended : new.in_transaction ≡ false
  pub survives : Survives old new (AreMadeOf old.now limit)
  -- a crash leaves the last commit, or what the opening made of it
  pub crash : HasCleanDisk new → IsTrue old.is_open → (trees : Trees) → new.may_leave trees → (trees ≡ old.committed.trees) ⊎ AreMadeOf old.now limit trees
