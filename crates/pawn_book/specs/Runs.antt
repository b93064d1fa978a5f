-- Runs: lists of items that are processed one after the other, each with its stamp and its mark.
use Rattle.pawn_book.specs.BookStep.{Out, Replied, Denied, Shown, Listed, Exported, out_of}
use Rattle.pawn_book.specs.HostStep.{Host, host_step, host_after}
use Rattle.pawn_book.specs.declared.refusal.Refusal.{Refusal}
use Rattle.pawn_book.specs.declared.refusal.Refusal.TheVariants.{Full, Memory, Store}
use Rattle.pawn_book.specs.declared.request.Request.{Request}
use Rattle.pawn_pledge.specs.declared.command.Stamp.{Stamp}
use Rattle.std.specs.Prelude.{ℕ, List, [], ◌∷◌, ◌++◌, Bool, true, false, Option, None, Some, Result, Ok, Err}

-- the mark of an item: the request or the fault that its bytes were read as, or that memory ran out, or that the store
-- failed
pub data Mark (F : Type 0) : Type 0 where
  read_as : (said : Result Request F) → Mark F
  no_memory : Mark F
  no_store : Mark F

-- an item of a run: its stamp and its mark
pub record Event (F : Type 0) : Type 0 where
  pub stamp : Stamp
  pub mark : Mark F

-- the answer to an item: that of the host, or the fault of bytes that are not a request
pub data Said (F : Type 0) : Type 0 where
  Answered : (out : Out) → Said F
  Faulted : (fault : F) → Said F

-- the request that an item was read as, if it was
abbrev pub request_in : {F : Type 0} → Mark F → Option Request
request_in (read_as (Ok request)) = Some request
request_in (read_as (Err fault)) = None
request_in no_memory = None
request_in no_store = None

-- the host after an item, given its stamp and mark
abbrev pub host_after_mark : {F : Type 0} → Host → ℕ → Stamp → Mark F → Host
host_after_mark h operator stamp (read_as (Ok request)) = host_after h request.book (host_step h operator stamp request)
host_after_mark h operator stamp (read_as (Err fault)) = h
host_after_mark h operator stamp no_memory = h
host_after_mark h operator stamp no_store = h

-- the answer to an item, given its stamp and mark
abbrev pub mark_reply : {F : Type 0} → Host → ℕ → Stamp → Mark F → Said F
mark_reply h operator stamp (read_as (Ok request)) = Answered (out_of (host_step h operator stamp request))
mark_reply h operator stamp (read_as (Err fault)) = Faulted fault
mark_reply h operator stamp no_memory = Answered (Denied Memory)
mark_reply h operator stamp no_store = Answered (Denied Store)

-- the host after an item
abbrev pub host_after_event : {F : Type 0} → Host → ℕ → Event F → Host
host_after_event h operator event = host_after_mark h operator event.stamp event.mark

-- the answer to an item
abbrev pub event_reply : {F : Type 0} → Host → ℕ → Event F → Said F
event_reply h operator event = mark_reply h operator event.stamp event.mark

-- the host after a run
abbrev pub run_host : {F : Type 0} → Host → ℕ → List (Event F) → Host
run_host h operator [] = h
run_host h operator (event ∷ events) = run_host (host_after_event h operator event) operator events

-- the answers of a run, in order
abbrev pub run_replies : {F : Type 0} → Host → ℕ → List (Event F) → List (Said F)
run_replies h operator [] = []
run_replies h operator (event ∷ events) = event_reply h operator event ∷ run_replies (host_after_event h operator event) operator events

-- a request of a run, with its stamp and the host before it
pub record Moment : Type 0 where
  pub host : Host
  pub stamp : Stamp
  pub request : Request

-- the moment of a request, if there is one
abbrev pub moment_of : Host → Stamp → Option Request → List Moment
moment_of h stamp None = []
moment_of h stamp (Some request) = record { host = h; stamp = stamp; request = request } ∷ []

-- the requests of a run, in order
abbrev pub moments : {F : Type 0} → Host → ℕ → List (Event F) → List Moment
moments h operator [] = []
moments h operator (event ∷ events) =
    moment_of h event.stamp (request_in event.mark) ++ moments (host_after_event h operator event) operator events

-- settled replies

-- the refusal is one of the rules, and none of `Full`, `Memory` and `Store`
abbrev pub is_by_rules : Refusal → Bool
is_by_rules Full = false
is_by_rules Memory = false
is_by_rules Store = false
is_by_rules why = true

-- the reply is settled: it is none of the refusals `Full`, `Memory` and `Store`
abbrev pub is_settled : Out → Bool
is_settled (Replied reply) = true
is_settled (Denied why) = is_by_rules why
is_settled (Shown day pledges) = true
is_settled (Listed day capacity items) = true
is_settled (Exported rows) = true
