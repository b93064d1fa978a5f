-- The state of a borrowed transaction after a call.
use Rattle.sqlite.specs.Held.{Held, state}
use Rattle.sqlite.specs.State.{HasCleanDisk, KeepsCommit, State, Survives}
use Rattle.sqlite_trees.specs.declared.store.Store.{Ghosts}
use Rattle.std.specs.Borrow.{MutBor}
use Rattle.std.specs.Prelude.{◌≡◌, Bool, true, IsTrue}

-- Within a transaction, while the disk returns what was written: the last commit is kept, and the transaction is still
-- open if the call succeeded. In every case a crash can leave nothing that it could not leave before the call.
pub record IsLent (old new : State) (ok : Bool) : Type 0 where
  pub kept : HasCleanDisk new → IsTrue old.in_transaction → KeepsCommit old new
  -- a call succeeds only if the store is open
  pub opened : HasCleanDisk new → IsTrue old.in_transaction → ok ≡ true → IsTrue old.is_open
  pub inside : HasCleanDisk new → IsTrue old.in_transaction → ok ≡ true → IsTrue new.in_transaction
  pub survives : Survives old new (λ _. ⊥)

-- the borrowed transaction is still the same reference, and its state after the call is as `IsLent` says
pub record Lends {S : Type 0} (g : Ghosts S) (old new : MutBor (Held S)) (ok : Bool) : Type 0 where
  pub same_reference : new.ghost_name ≡ old.ghost_name
  pub leaves : IsLent (state g old.now) (state g new.now) ok

-- the database is as it was, and the transaction is still open
pub record Rests (old new : State) : Type 0 where
  pub now_is : new.now ≡ old.now
  pub inside : IsTrue new.in_transaction
