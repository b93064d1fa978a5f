-- How plans, and the changes that are saved for them, relate to the outcome of a request.
use Rattle.pawn_book.specs.BookStep.{BookValue, Outcome, Replied, Refuses, Says, Makes, out_of, gate_step, book_head}
use Rattle.pawn_book.specs.BookStep.{within_window}
use Rattle.pawn_book.specs.Changes.{CanSave, book_number, with_change}
use Rattle.pawn_book.specs.HostStep.{Host, rows, host_step, host_after}
use Rattle.pawn_book.specs.Keeping.{IsFitting}
use Rattle.pawn_book.specs.Sound.{IsSound}
use Rattle.pawn_book.specs.declared.change.BookHead.{BookHead}
use Rattle.pawn_book.specs.declared.change.Change.{Change}
use Rattle.pawn_book.specs.declared.change.Planned.{Planned}
use Rattle.pawn_book.specs.declared.refusal.Refusal.{Refusal}
use Rattle.pawn_book.specs.declared.reply.Reply.{Reply}
use Rattle.pawn_book.specs.declared.request.BearerRequest.{BearerRequest}
use Rattle.pawn_book.specs.declared.request.Caller.{Caller}
use Rattle.pawn_book.specs.declared.request.Caller.TheVariants.{Operator, Broker, Viewer, Bearer}
use Rattle.pawn_book.specs.declared.request.Request.{Request}
use Rattle.pawn_pledge.specs.declared.command.Stamp.{Stamp}
use Rattle.std.specs.Prelude.{◌≡◌, ◌⊎◌, ℕ, ◌≤◌, ◌<◌, Option, Some, None, Result, Ok, Err, IfSome}
use Rattle.pawn_book.specs.declared.request.BearerRequest.TheVariants as bearer
use Rattle.pawn_book.specs.declared.refusal.Refusal.TheVariants as No

-- the refusal is `Memory` or `Store`
abbrev pub IsUnwell : Refusal → Type 0
IsUnwell why = (why ≡ No.Memory) ⊎ (why ≡ No.Store)

-- the outcome is this refusal, or the refusal is `Memory` or `Store`
abbrev pub IsRefused : Outcome → Refusal → Type 0
IsRefused outcome why = IsUnwell why ⊎ (outcome ≡ Refuses why)

-- the outcome of a plan: its reply, with its change if it has one
abbrev pub outcome_of : Option Change → Reply → Outcome
outcome_of None reply = Says (Replied reply)
outcome_of (Some change) reply = Makes change reply

-- the plan is the outcome, and its change, if it has one, is of book b and may be saved; or the request is refused
abbrev pub Plans : Host → ℕ → Outcome → Result Planned Refusal → Type 0
Plans h b outcome (Ok planned) =
    (outcome ≡ outcome_of planned.change planned.reply) × IfSome planned.change (λ change. (book_number change ≡ b) × CanSave h change)
Plans h b outcome (Err why) = IsRefused outcome why

-- the plan is the outcome, or the request is refused
abbrev pub IsOutcome : Outcome → Result Planned Refusal → Type 0
IsOutcome outcome (Ok planned) = outcome ≡ outcome_of planned.change planned.reply
IsOutcome outcome (Err why) = IsRefused outcome why

-- the outcome confirms no booking whose window is full, or it is refused
abbrev pub FindsRoom : BookValue → Outcome → Result (Unit {0}) Refusal → Type 0
FindsRoom book outcome (Ok done) = within_window book outcome ≡ outcome
FindsRoom book outcome (Err why) = IsRefused (within_window book outcome) why

-- the gate returns the head of the book if the key is the book's; otherwise it returns the refusal that every request
-- with this key gets, or `Memory` or `Store`
abbrev pub Gates : Option BookValue → ℕ → Result BookHead Refusal → Type 0
Gates book key (Ok head) = (at : BookValue) × (book ≡ Some at) × (head ≡ book_head at) × (at.key ≡ key)
Gates book key (Err why) = (step : BookValue → Outcome) → IsRefused (gate_step book key step) why

-- the result of saving a plan: its change is made, with the rows within the limit, or nothing is changed
abbrev pub Commits : Host → Option Change → Result (Unit {0}) Refusal → (Host → Type 0) → Type 0
Commits h None (Ok done) stands = stands h
Commits h None (Err why) stands = ⊥
Commits h (Some change) (Ok done) stands = stands (with_change h change) × (rows (with_change h change) ≤ h.limit)
Commits h (Some change) (Err why) stands =
    stands h × (IsUnwell why ⊎ ((why ≡ No.Full) × (h.limit < rows (with_change h change))))

-- A host that a crash may leave after the change of a plan was saved or refused, where `before` holds of the hosts that
-- a crash could leave before. After a change was saved it is the changed host. Otherwise it is one of the hosts before
-- or, after `Memory` or `Store`, the changed host.
abbrev pub IsLeftByCommit : Host → Option Change → (Host → Type 0) → Result (Unit {0}) Refusal → Host → Type 0
IsLeftByCommit h None before result left = before left
IsLeftByCommit h (Some change) before (Ok done) left = left ≡ with_change h change
IsLeftByCommit h (Some change) before (Err why) left = before left ⊎ (IsUnwell why × IsFitting h change left)

-- the host after a request
abbrev pub next_host : Host → ℕ → Stamp → Request → Host
next_host h operator stamp request = host_after h request.book (host_step h operator stamp request)

-- the answer is that of the host's step, and the keeper then stands for the host after the step, which is sound; after
-- a refusal it stands for the host as before
abbrev pub Acts : Host → ℕ → Stamp → Request → Result Reply Refusal → (Host → Type 0) → Type 0
Acts h operator stamp request (Ok reply) stands =
    (out_of (host_step h operator stamp request) ≡ Replied reply) × stands (next_host h operator stamp request) × IsSound (next_host h operator stamp request)
Acts h operator stamp request (Err why) stands = stands h × IsRefused (host_step h operator stamp request) why

-- a host that a crash may leave after an outcome: after a change the changed host, otherwise one that it could leave
-- before
abbrev pub IsLeftByStep : Host → ℕ → Outcome → (Host → Type 0) → Host → Type 0
IsLeftByStep h b (Refuses why) before left = before left
IsLeftByStep h b (Says out) before left = before left
IsLeftByStep h b (Makes change reply) before left = left ≡ host_after h b (Makes change reply)

-- a host that a crash may leave after a request; after `Memory` or `Store` the request may have been carried out
-- nevertheless
abbrev pub IsLeftByAct : Host → ℕ → Stamp → Request → (Host → Type 0) → Result Reply Refusal → Host → Type 0
IsLeftByAct h operator stamp request before (Ok reply) left = IsLeftByStep h request.book (host_step h operator stamp request) before left
IsLeftByAct h operator stamp request before (Err why) left = before left ⊎ (IsUnwell why × (left ≡ next_host h operator stamp request))

-- a bearer's request that may change the book
abbrev pub IsBearerWrite : BearerRequest → Type 0
IsBearerWrite (bearer.Present receipts) = ⊥
IsBearerWrite (bearer.OnPledge receipt command) = Unit {0}

-- a request that may change its book
abbrev pub MayChange : Caller → Type 0
MayChange (Operator key new) = Unit {0}
MayChange (Broker key asked) = Unit {0}
MayChange (Viewer key view) = ⊥
MayChange (Bearer asked) = IsBearerWrite asked
