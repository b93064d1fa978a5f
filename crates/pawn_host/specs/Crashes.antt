-- The hosts that a crash may leave after a run.
use Rattle.pawn_book.specs.Plans.{IsLeftByStep, next_host}
use Rattle.pawn_host.specs.Common.{Host, Keeping, Mark, Request, SaysRequest, Stamp, WireFault, host_after_event}
use Rattle.pawn_host.specs.Common.{host_step, no_memory, no_store, read_as}
use Rattle.pawn_host.specs.Run.{Item, event_of, host_after_run}
use Rattle.std.specs.Prelude.{◌≡◌, ◌⊎◌, ◌++◌, ℕ, List, [], ◌∷◌, slice_get, Some, Ok, Err}

-- the host after the request in these bytes was done
abbrev pub IsDone : Host → ℕ → Stamp → List ℕ → Host → Type 0
IsDone h operator stamp bytes left = (request : Request) × SaysRequest bytes (Ok request) × (left ≡ next_host h operator stamp request)

-- A host that a crash may leave after an item, if it could leave those of `before` ahead of the item. After a change,
-- it is the changed host only. If there was nothing to change, it is one of `before`. If memory ran out or the store
-- failed, it is one of `before`, or the host after the request was done.
abbrev pub IsLeftByMark : Host → ℕ → Stamp → List ℕ → Mark WireFault → (Host → Type 0) → Host → Type 0
IsLeftByMark h operator stamp bytes (read_as (Ok request)) before left = IsLeftByStep h request.book (host_step h operator stamp request) before left
IsLeftByMark h operator stamp bytes (read_as (Err fault)) before left = before left
IsLeftByMark h operator stamp bytes no_memory before left = before left ⊎ IsDone h operator stamp bytes left
IsLeftByMark h operator stamp bytes no_store before left = before left ⊎ IsDone h operator stamp bytes left

-- a host that a crash may leave after the items of a run
abbrev pub IsLeftByRun : Host → ℕ → List Item → (Host → Type 0) → Host → Type 0
IsLeftByRun h operator [] before left = before left
IsLeftByRun h operator (item ∷ items) before left =
    IsLeftByRun (host_after_event h operator (event_of item)) operator items (IsLeftByMark h operator item.stamp item.bytes item.mark before) left

-- the host after one more request was done: the request of an item that was answered with `Memory` or `Store`
pub record IsOneMore (h : Host) (operator : ℕ) (items : List Item) (left : Host) : Type 0 where
  pub place : ℕ
  pub item : Item
  pub there : slice_get items place ≡ Some item
  pub unwell : (item.mark ≡ no_memory) ⊎ (item.mark ≡ no_store)
  pub done : IsDone h operator item.stamp item.bytes left

-- a host that a crash may leave after these items: the host after them, or that host with one more request done
abbrev pub IsLeftWhole : Host → ℕ → List Item → Host → Type 0
IsLeftWhole h operator items left = (left ≡ host_after_run h operator items) ⊎ IsOneMore (host_after_run h operator items) operator items left

-- if a crash before a run could leave only this host of a keeper, a crash after the run leaves only these
abbrev pub CrashLeavesWhole : {K : Type 0} → Keeping K → Type 0
CrashLeavesWhole {K} k =
    (keep : K) (h : Host) (operator : ℕ) (items : List Item) (left : Host) → ((g : Host) → k.leaves keep g → g ≡ h)
    → IsLeftByRun h operator items (k.leaves keep) left → IsLeftWhole h operator items left

-- the hosts that a crash may leave after two runs, one after the other, are among those that it may leave after both as
-- one run
abbrev pub CrashesCompose : {K : Type 0} → Keeping K → Type 0
CrashesCompose {K} k =
    (keep : K) (h : Host) (operator : ℕ) (a b : List Item) (left : Host)
    → IsLeftByRun (host_after_run h operator a) operator b (IsLeftByRun h operator a (k.leaves keep)) left
    → IsLeftByRun h operator (a ++ b) (k.leaves keep) left
