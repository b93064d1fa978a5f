-- The tables in the middle of a change: its rows are written, but not yet counted.
use Rattle.pawn_saving.specs.Common.{Database, CanSave, with_change, Change, SaveError, ListsOurs}
use Rattle.pawn_tables.specs.Common.{HasCleanDisk, State, Host, rows, IsSound}
use Rattle.pawn_tables.specs.StandsFor.{StandsFor, listed_as}
use Rattle.std.specs.Prelude.{◌≡◌, ◌↔◌, ℕ, ◌+◌, ◌≤◌, ◌<◌, Bool, IsTrue, Result, Ok, Err}
use Rattle.std.specs.Prelude.{IfOk}
use Rattle.pawn_book.specs.declared.fault.SaveError.TheVariants as Save

-- the tables hold the rows of the host, and note this count
abbrev pub ListsHost : Database → Host → ℕ → Type 0
ListsHost db h counted = ListsOurs db (listed_as h counted)

-- the tables hold the rows of host g, which has `added` more counted rows than h, and still note the count of h
pub record IsWrittenPart (h g : Host) (db : Database) (added : ℕ) : Type 0 where
  pub lists : ListsHost db g (rows h)
  pub grown : rows g ≡ rows h + added

-- Within a transaction, while the disk returns what was written: for each sound host that the tables stand for, and in
-- which the change can be saved, the rows of the changed host are written.
abbrev pub WritesRows : {E : Type 0} → State → State → Change → Result ℕ E → Type 0
WritesRows old new change result =
    HasCleanDisk new → IsTrue old.in_transaction → (h : Host) → IsSound h → CanSave h change → StandsFor old.now h
    → IfOk result (IsWrittenPart h (with_change h change) new.now)

-- the same, only for hosts of which P holds
abbrev pub WritesWhere : {E : Type 0} → State → State → (Host → Type 0) → Change → Result ℕ E → Type 0
WritesWhere old new P change result =
    HasCleanDisk new → IsTrue old.in_transaction → (h : Host) → IsSound h → CanSave h change → StandsFor old.now h → P h
    → IfOk result (IsWrittenPart h (with_change h change) new.now)

-- the noted count grows by `by`, and the answer is whether it is still within the limit
abbrev pub Counts : {E : Type 0} → State → State → ℕ → Result Bool E → Type 0
Counts old new by result =
    HasCleanDisk new → IsTrue old.in_transaction → (g : Host) (counted : ℕ) → counted ≤ g.limit → ListsHost old.now g counted
    → IfOk result (λ fits. (IsTrue fits ↔ (counted + by ≤ g.limit)) × ListsHost new.now g (counted + by))

-- P if the change is made, Q if the error is Full; other errors say nothing
abbrev pub IsCounted : {T : Type 0} → Result T SaveError → Type 0 → Type 0 → Type 0
IsCounted (Ok done) P Q = P
IsCounted (Err Save.Full) P Q = Q
IsCounted (Err Save.Memory) P Q = Unit {0}
IsCounted (Err (Save.Store fault)) P Q = Unit {0}

-- Within a transaction, while the disk returns what was written: for each sound host that an open store stands for, and
-- in which the change can be saved. Ok: the tables stand for the changed host, which is within its limit. Full: it
-- would exceed the limit.
abbrev pub WritesChange : {T : Type 0} → State → State → Change → Result T SaveError → Type 0
WritesChange old new change result =
    HasCleanDisk new → IsTrue old.in_transaction → (h : Host) → IsSound h → (IsTrue old.is_open → CanSave h change × StandsFor old.now h)
    → IsCounted result (StandsFor new.now (with_change h change) × (rows (with_change h change) ≤ h.limit)) (h.limit < rows (with_change h change))
