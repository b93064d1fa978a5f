-- The contracts of reads: what is read from the tables, and when a row may be reported as one that cannot be decoded.
use Rattle.pawn_tables.specs.Common.{Tables, Held, state, HasCleanDisk, State, Host, KeepError, Database, NoRecord}
use Rattle.pawn_tables.specs.Common.{Rests}
use Rattle.pawn_tables.specs.StandsFor.{StandsFor}
use Rattle.sqlite_trees.specs.declared.store.Store.{Ghosts}
use Rattle.std.specs.Borrow.{MutBor}
use Rattle.std.specs.Prelude.{◌≡◌, IsTrue, Result, Ok, Err}
use Rattle.pawn_book.specs.declared.fault.KeepError.TheVariants as Keeper

-- if the read succeeds, P holds of the value; if the error is `NoRecord`, Q holds; other errors say nothing
abbrev pub Finds : {A : Type 0} → Result A KeepError → (A → Type 0) → Type 0 → Type 0
Finds (Ok x) P Q = P x
Finds (Err Keeper.Memory) P Q = Unit {0}
Finds (Err (Keeper.Store NoRecord)) P Q = Q
Finds (Err (Keeper.Store Database)) P Q = Unit {0}

-- if the read succeeds, the value is `it`; the error is `NoRecord` only if `kept` does not hold
abbrev pub IsRead : {A : Type 0} → Result A KeepError → A → Type 0 → Type 0
IsRead result it kept = Finds result (λ x. x ≡ it) (kept → ⊥)

-- the store, if it is open, stands for the host; a store that a fault has shut meets this for every host
abbrev pub Stood : State → Host → Type 0
Stood s h = IsTrue s.is_open → StandsFor s.now h

-- Within a transaction, while the disk returns what was written: for each host that the tables stand for, P holds of
-- the value that was read, and the database is unchanged. The error is `NoRecord` only if `IsUnsound` holds of the
-- host.
abbrev pub FindsIn : {A : Type 0} → (Host → Type 0) → State → State → Result A KeepError → (Host → A → Type 0) → Type 0
FindsIn IsUnsound old new result P =
    HasCleanDisk new → IsTrue old.in_transaction → (h : Host) → Stood old h → Finds result (λ x. P h x × Rests old new) (IsUnsound h)

-- `FindsIn` for a borrowed transaction before and after the call
abbrev pub FindsBy : {S A : Type 0} → Ghosts S → MutBor (Held S) → MutBor (Held S) → (Host → Type 0) → Result A KeepError → (Host → A → Type 0) → Type 0
FindsBy g old new IsUnsound result P = FindsIn IsUnsound (state g old.now) (state g new.now) result P

-- like `FindsIn`, but for each host to which the tables are related by `Relates` instead of `StandsFor`
abbrev pub FindsOf : {A : Type 0} → (Tables → Host → Type 0) → (Host → Type 0) → State → State → Result A KeepError → (Host → A → Type 0) → Type 0
FindsOf Relates IsUnsound old new result P =
    HasCleanDisk new → IsTrue old.in_transaction → (h : Host) → (IsTrue old.is_open → Relates old.now h)
    → Finds result (λ x. P h x × Rests old new) (IsUnsound h)
