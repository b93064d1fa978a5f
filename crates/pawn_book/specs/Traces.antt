-- The traces of a run: the part of it that concerns one book, or one slot. A slot is a list of receipts of one book.
use Rattle.pawn_book.specs.BookStep.{BookValue, Outcome, Makes, out_of, is_live, pledge_in}
use Rattle.pawn_book.specs.Changes.{numbered_pledges, touched_pledges}
use Rattle.pawn_book.specs.HostStep.{Host, host_step}
use Rattle.pawn_book.specs.Keeping.{pledges_of}
use Rattle.pawn_book.specs.Laws.{command_of}
use Rattle.pawn_book.specs.Runs.{Event, Moment, is_settled, moments}
use Rattle.pawn_book.specs.declared.request.Caller.{Caller}
use Rattle.pawn_pledge.specs.Pledge.{PledgeValue}
use Rattle.pawn_pledge.specs.declared.command.Command.{Command}
use Rattle.pawn_pledge.specs.declared.command.Stamp.{Stamp}
use Rattle.pawn_pledge.specs.declared.receipt.Receipt.{Receipt}
use Rattle.std.specs.FinMap.{get}
use Rattle.std.specs.List.{list_any, flat_map}
use Rattle.std.specs.Prelude.{ℕ, List, [], ◌∷◌, ◌++◌, ◌==◌, Bool, ◌&&◌, Option, None, Some, is_some, if◌then◌else◌}

-- the outcome of a request on the host as it was before the request
abbrev pub outcome_alone : ℕ → Moment → Outcome
outcome_alone operator m = host_step m.host operator m.stamp m.request

-- a request on book b, if its reply is settled
abbrev pub asked_of : ℕ → ℕ → Moment → List (Stamp × Caller)
asked_of b operator m = if (m.request.book == b) && is_settled (out_of (outcome_alone operator m)) then (m.stamp, m.request.caller) ∷ [] else []

-- a book's trace: the requests of a run on book b whose replies are settled, in order
abbrev pub book_trace : {F : Type 0} → ℕ → Host → ℕ → List (Event F) → List (Stamp × Caller)
book_trace b h operator events = flat_map (asked_of b operator) (moments h operator events)

-- an event of a slot: a pledge enters, as it is when a receipt of the slot becomes its live one; or a command changes a
-- pledge that is in the slot
pub data SlotEvent : Type 0 where
  Entered : (number : ℕ) (pledge : PledgeValue) → SlotEvent
  Did : (number : ℕ) (stamp : Stamp) (command : Command) → SlotEvent

-- a receipt of the slot is the live one of pledge n
abbrev pub is_live_in : List Receipt → ℕ → PledgeValue → Bool
is_live_in slot n p = list_any (λ r. (r.number == n) && is_live r.secret p) slot

-- pledge n, if it is in the slot
abbrev pub within_slot : List Receipt → ℕ → Option PledgeValue → Option PledgeValue
within_slot slot n None = None
within_slot slot n (Some p) = if is_live_in slot n p then Some p else None

-- the pledges of a book that are in the slot
abbrev pub slot_of : List Receipt → Option BookValue → ℕ → Option PledgeValue
slot_of slot book n = within_slot slot n (pledge_in book n)

-- the event that a pledge enters, if a receipt of the slot is its live one
abbrev pub enters : List Receipt → ℕ × PledgeValue → List SlotEvent
enters slot pledge = if is_live_in slot pledge.0 pledge.1 then Entered pledge.0 pledge.1 ∷ [] else []

-- the event of a command on pledge n, if there is one
abbrev pub did : ℕ → Stamp → Option Command → List SlotEvent
did n stamp None = []
did n stamp (Some command) = Did n stamp command ∷ []

-- the events of a changed pledge: the command, if the pledge was in the slot; otherwise its entry, if it is in the slot
-- now
abbrev pub touches : List Receipt → Option BookValue → Stamp → Caller → ℕ × PledgeValue → List SlotEvent
touches slot before stamp caller pledge =
    if is_some (slot_of slot before pledge.0) then did pledge.0 stamp (command_of caller) else enters slot pledge

-- the events of a slot by an outcome
abbrev pub slot_events : List Receipt → Option BookValue → Stamp → Caller → Outcome → List SlotEvent
slot_events slot before stamp caller (Makes change reply) = flat_map (touches slot before stamp caller) (touched_pledges change)
slot_events slot before stamp caller other = []

-- the events of a slot by a request, if the request is on book b
abbrev pub seen_by : ℕ → List Receipt → ℕ → Moment → List SlotEvent
seen_by b slot operator m = if m.request.book == b then slot_events slot (get m.host.books b) m.stamp m.request.caller (outcome_alone operator m) else []

-- a slot's trace: the pledges that are in it when the run begins, by number, and then its events
abbrev pub slot_trace : {F : Type 0} → ℕ → List Receipt → Host → ℕ → List (Event F) → List SlotEvent
slot_trace b slot h operator events =
    flat_map (enters slot) (numbered_pledges 1 (pledges_of (get h.books b))) ++ flat_map (seen_by b slot operator) (moments h operator events)
