-- The contracts of the keeper's calls: what they read from the tables and what they pass to a visitor.
use Rattle.pawn_table_keeper.specs.Common.{state, IsUnsoundAt, Host, Errs, Keeping, Reads, Handed, IsShare, call_end}
use Rattle.pawn_table_keeper.specs.Common.{KeepError, Flow, Go}
use Rattle.pawn_table_keeper.specs.declared.keeper.TableKeep.{TableKeep}
use Rattle.pawn_tables.specs.Keeps.{keeping_by}
use Rattle.sqlite_trees.specs.declared.store.Store.{Ghosts}
use Rattle.std.specs.Prelude.{ℕ, List, Result, Ok, Err, IfOk}

-- a keeper over a store as an instance of `Keeping`
abbrev pub keeping_of : {S : Type 0} (g : Ghosts S) → Keeping (TableKeep S g)
keeping_of g = keeping_by (λ k. state g k.conn)

-- a read of this book: if it succeeds, P holds of each host that the keeper stands for and of the value that was read;
-- if it fails, the error is one that `Errs` allows
pub record ReadsOfBook {S A : Type 0} (g : Ghosts S) (old new : TableKeep S g) (book : ℕ) (result : Result A KeepError) (P : Host → A → Type 0) : Type 0 where
  pub reads : Reads (keeping_of g) old new (λ h. IfOk result (P h))
  pub errs : Errs (keeping_of g) old new (IsUnsoundAt book) result

-- the visitor's last answer, where a call that ends in an error counts as Go
abbrev pub flow_of : Result Flow KeepError → Flow
flow_of (Ok flow) = flow
flow_of (Err e) = Go

-- The visitor receives the items that are listed of the host: all of them, or the first of them if it answered Stop or
-- the call failed. The call reports a row that cannot be decoded only if `IsUnsound` holds of the host.
pub record HandsRows {K V T : Type 0} (k : Keeping K) (IsUnsound : Host → Type 0) (step : V → T → Flow → V → Type 0) (old new : K) (v w : V)
    (result : Result Flow KeepError) (listed : Host → List T) : Type 0 where
  pub given : List T
  pub handed : Handed step v given (flow_of result) w
  pub reads : Reads k old new (λ h. IsShare given (flow_of result) (call_end result) (listed h))
  pub errs : Errs k old new IsUnsound result

-- the same for this book and a keeper over a store
abbrev pub Hands : {S V T : Type 0} (g : Ghosts S) → ℕ → (V → T → Flow → V → Type 0) → (old new : TableKeep S g) → V → V → Result Flow KeepError
    → (Host → List T) → Type 0
Hands g book step old new v w result listed = HandsRows (keeping_of g) (IsUnsoundAt book) step old new v w result listed
