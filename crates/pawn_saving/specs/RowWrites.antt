-- The rows that a statement writes. Each definition holds within a transaction, while the disk returns what was
-- written.
use Rattle.pawn_saving.specs.Common.{with_rows, ListsOurs}
use Rattle.pawn_tables.specs.Common.{Row, HasCleanDisk, State, state, Listed}
use Rattle.pawn_tables.specs.Rows.{at_most_one}
use Rattle.sqlite.specs.Held.{Held}
use Rattle.sqlite.specs.State.{KeepsCommit, Survives}
use Rattle.sqlite_trees.specs.declared.store.Store.{Ghosts}
use Rattle.std.specs.Borrow.{MutBor}
use Rattle.std.specs.Prelude.{◌≡◌, ℕ, Bool, true, List, [], ◌∷◌, filter, IsPermutation, IsTrue, Option, Result, OnOk}
use Rattle.std.specs.Prelude.{◌++◌}

-- the row is added to those of a table
abbrev pub AddsRow : {E : Type 0} → State → State → Result (Unit {0}) E → ℕ → Row → Type 0
AddsRow old new result tree row =
    HasCleanDisk new → IsTrue old.in_transaction → (listed : Listed) → ListsOurs old.now listed
    → OnOk result (ListsOurs new.now (with_rows listed tree (row ∷ listed tree)))

-- no index, table or view is made
abbrev pub KeepsSchema : {E : Type 0} → State → State → Result (Unit {0}) E → Type 0
KeepsSchema old new result =
    HasCleanDisk new → IsTrue old.in_transaction → (listed : Listed) → ListsOurs old.now listed → OnOk result (new.now.schema ≡ old.now.schema)

-- the table has this row, and other rows that all fail the test
pub record IsOnly (test : Row → Bool) (rows : List Row) (row : Row) (others : List Row) : Type 0 where
  pub split : IsPermutation rows (row ∷ others)
  pub none : filter test others ≡ []

-- the row replaces the only one that may pass the test
abbrev pub Replaces : {E : Type 0} → State → State → Result (Unit {0}) E → ℕ → (Row → Bool) → Row → Row → Type 0
Replaces old new result tree test row next =
    HasCleanDisk new → IsTrue old.in_transaction → (listed : Listed) (others : List Row) → IsOnly test (listed tree) row others → ListsOurs old.now listed
    → OnOk result (ListsOurs new.now (with_rows listed tree (next ∷ others)))

-- the row replaces the one that the table has for the pledge, or is added if it has none
abbrev pub PutsOver : {E : Type 0} → State → State → Result (Unit {0}) E → ℕ → (Row → Bool) → Option Row → Row → Type 0
PutsOver old new result tree test before row =
    HasCleanDisk new → IsTrue old.in_transaction → (listed : Listed) (others : List Row) → IsPermutation (listed tree) (at_most_one (λ r. r) before ++ others)
    → filter test others ≡ [] → ListsOurs old.now listed
    → OnOk result (ListsOurs new.now (with_rows listed tree (row ∷ others)))

-- the rows are added to those of a table
abbrev pub AddsRows : {E : Type 0} → State → State → Result (Unit {0}) E → ℕ → List Row → Type 0
AddsRows old new result tree rows =
    HasCleanDisk new → IsTrue old.in_transaction → (listed : Listed) → ListsOurs old.now listed
    → OnOk result (ListsOurs new.now (with_rows listed tree (rows ++ listed tree)))

-- The state of a borrowed transaction after any number of statements, possibly none. Because there may be none, success
-- does not show that the store is open.
pub record IsCarried (old new : State) (ok : Bool) : Type 0 where
  pub kept : HasCleanDisk new → IsTrue old.in_transaction → KeepsCommit old new
  pub inside : HasCleanDisk new → IsTrue old.in_transaction → ok ≡ true → IsTrue new.in_transaction
  pub survives : Survives old new (λ _. ⊥)

-- the borrowed transaction is still the same reference, and its state after the statements is as `IsCarried` says
pub record Carries {S : Type 0} (g : Ghosts S) (old new : MutBor (Held S)) (ok : Bool) : Type 0 where
  pub same_reference : new.ghost_name ≡ old.ghost_name
  pub leaves : IsCarried (state g old.now) (state g new.now) ok
