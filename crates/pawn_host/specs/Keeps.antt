-- What contracts state about a service and its answers.
use Rattle.pawn_host.specs.Common.{BookValue, GoesOn, Host, IsSound, Keeping, Mark, OfHost, Request, SaysRequest, Stamp}
use Rattle.pawn_host.specs.Common.{WireFault, get, host_after_mark, mark_reply, memory_text}
use Rattle.pawn_host.specs.Crashes.{IsLeftByMark, IsLeftByRun}
use Rattle.pawn_host.specs.Run.{Item, IsMarkOf, IsMarked, input_of, said_text, host_after_run, replies}
use Rattle.pawn_host.specs.declared.service.Answer.{Answer}
use Rattle.pawn_host.specs.declared.service.Service.{Service}
use Rattle.std.specs.Prelude.{◌≡◌, ℕ, List, Some, Ok, map, All}

-- the keeper of a service
abbrev pub service_keep : {K : Type 0} → Service K → K
service_keep s = s.keep

-- the operator's key
abbrev pub service_operator : {K : Type 0} → Service K → ℕ
service_operator s = s.operator

-- the bytes to be sent for an answer
abbrev pub answer_bytes : Answer → List ℕ
answer_bytes (Answer.Bytes v) = v.items
answer_bytes Answer.Memory = memory_text

-- the key is that of a book of the host
abbrev pub IsKeyOf : Host → ℕ → ℕ → Type 0
IsKeyOf h book key = (at : BookValue) × (get h.books book ≡ Some at) × (at.key ≡ key)

-- the answer has this text, or is `Memory`
abbrev pub States : Answer → List ℕ → Type 0
States (Answer.Bytes v) text = v.items ≡ text
States Answer.Memory text = Unit {0}

-- the start of a call of the service: whether its keeper is steady, the operator's key, the host, and the hosts that a
-- crash may leave
pub record Start : Type 1 where
  pub Steady : Type 0
  pub operator : ℕ
  pub host : Host
  pub leaves : Host → Type 0

-- the start of a call of this service, whose keeper stands for this host
abbrev pub start_of : {K : Type 0} → Keeping K → Service K → Host → Start
start_of k s h = record { Steady = k.steady (service_keep s); operator = service_operator s; host = h; leaves = k.leaves (service_keep s) }

-- the keeper after a call: the hosts that it stands for, and those that a crash may leave
pub record Kept : Type 1 where
  pub stands : Host → Type 0
  pub leaves : Host → Type 0

-- the keeper of this service after a call
abbrev pub kept_by : {K : Type 0} → Keeping K → Service K → Kept
kept_by k s = record { stands = k.stands (service_keep s); leaves = k.leaves (service_keep s) }

-- the keeper now stands for this host, which is sound, and a crash leaves only these hosts
pub record GoesTo (kept : Kept) (h : Host) (these : Host → Type 0) : Type 0 where
  pub stands_for : kept.stands h
  pub sound : IsSound h
  pub crash : (left : Host) → kept.leaves left → these left

-- a service goes on after a call: its keeper does, and the operator's key stays the same
pub record StaysOpen {K : Type 0} (k : Keeping K) (old new : Service K) : Type 0 where
  pub on : GoesOn k (service_keep old) (service_keep new)
  pub operator : service_operator new ≡ service_operator old

-- for each sound host that the service's keeper stood for: if the keeper is honest now, P holds of the start of the
-- call and of the keeper after it
abbrev pub ForEachStart : {K : Type 0} → Keeping K → Service K → Service K → (Start → Kept → Type 0) → Type 0
ForEachStart k old new P = OfHost k (service_keep old) (service_keep new) (λ h. P (start_of k old h) (kept_by k new))

-- for some mark, one item of a run led to the reply, to the host of the keeper after it, and to the hosts that a crash
-- may leave
pub record IsActed (start : Start) (stamp : Stamp) (bytes reply : List ℕ) (kept : Kept) : Type 0 where
  pub mark : Mark WireFault
  pub marked : IsMarkOf start.Steady bytes mark
  pub text : reply ≡ said_text (mark_reply start.host start.operator stamp mark)
  pub goes : GoesTo kept (host_after_mark start.host start.operator stamp mark) (IsLeftByMark start.host start.operator stamp bytes mark start.leaves)

-- with any bytes that encode this request, the call would have had the same reply, host and hosts that a crash may
-- leave
abbrev pub Answers : Start → Stamp → Request → List ℕ → Kept → Type 0
Answers start stamp request reply kept = (bytes : List ℕ) → SaysRequest bytes (Ok request) → IsActed start stamp bytes reply kept

-- the host after these items
abbrev pub host_by : Start → List Item → Host
host_by start items = host_after_run start.host start.operator items

-- the replies to these items
abbrev pub replies_by : Start → List Item → List (List ℕ)
replies_by start items = replies start.host start.operator items

-- the start of a call that follows these items
abbrev pub start_after : Start → List Item → Start
start_after start items =
    record { Steady = start.Steady; operator = start.operator; host = host_by start items; leaves = IsLeftByRun start.host start.operator items start.leaves }

-- the keeper goes on to the host after these items
abbrev pub GoesBy : Start → List Item → Kept → Type 0
GoesBy start items kept = GoesTo kept (host_by start items) (IsLeftByRun start.host start.operator items start.leaves)

-- the run of these items, with some marks, led to these answers, and to the keeper after it
pub record IsRun (start : Start) (given : List (Stamp × List ℕ)) (answers : List (List ℕ)) (kept : Kept) : Type 0 where
  pub items : List Item
  pub marked : All (IsMarked start.Steady) items
  pub given_is : map input_of items ≡ given
  pub answers_are : answers ≡ replies_by start items
  pub goes : GoesBy start items kept
