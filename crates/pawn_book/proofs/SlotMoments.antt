-- Runs request by request.
use Rattle.pawn_book.specs.Books.{Caller, Request}
use Rattle.pawn_book.specs.Common.{Receipt, Stamp, flat_map}
use Rattle.pawn_book.specs.HostStep.{Host}
use Rattle.pawn_book.specs.Runs.{Event, Moment, host_after_event, moment_of, moments, request_in}
use Rattle.pawn_book.specs.Traces.{SlotEvent, asked_of, seen_by}
use Rattle.std.proofs.Common.{◌≡◌, ℕ, List, [], ◌∷◌, ◌++◌, Option, None, Some, refl}

-- the events of a slot by a request, if there is one
abbrev pub slot_on : ℕ → List Receipt → Host → ℕ → Stamp → Option Request → List SlotEvent
slot_on b slot h operator stamp None = []
slot_on b slot h operator stamp (Some request) = seen_by b slot operator (record { host = h; stamp = stamp; request = request })

-- the part of a book's trace for a request
abbrev pub request_on : ℕ → Host → ℕ → Stamp → Option Request → List (Stamp × Caller)
request_on b h operator stamp None = []
request_on b h operator stamp (Some request) = asked_of b operator (record { host = h; stamp = stamp; request = request })

abbrev pub run_slot : {F : Type 0} → ℕ → List Receipt → Host → ℕ → List (Event F) → List SlotEvent
run_slot b slot h operator events = flat_map (seen_by b slot operator) (moments h operator events)

slot_first : (b : ℕ) (slot : List Receipt) (h : Host) (operator : ℕ) (stamp : Stamp) (asked : Option Request) (rest : List Moment)
    → flat_map (seen_by b slot operator) (moment_of h stamp asked ++ rest) ≡ slot_on b slot h operator stamp asked ++ flat_map (seen_by b slot operator) rest
slot_first b slot h operator stamp None rest = refl
slot_first b slot h operator stamp (Some request) rest = refl

pub slot_step : {F : Type 0} (b : ℕ) (slot : List Receipt) (h : Host) (operator : ℕ) (event : Event F) (events : List (Event F)) → run_slot b slot h operator
    (event ∷ events) ≡ slot_on b slot h operator event.stamp (request_in event.mark) ++ run_slot b slot (host_after_event h operator event) operator events
slot_step b slot h operator event events =
    slot_first b slot h operator event.stamp (request_in event.mark) (moments (host_after_event h operator event) operator events)

book_first : (b : ℕ) (h : Host) (operator : ℕ) (stamp : Stamp) (asked : Option Request) (rest : List Moment)
    → flat_map (asked_of b operator) (moment_of h stamp asked ++ rest) ≡ request_on b h operator stamp asked ++ flat_map (asked_of b operator) rest
book_first b h operator stamp None rest = refl
book_first b h operator stamp (Some request) rest = refl

pub book_trace_step : {F : Type 0} (b : ℕ) (h : Host) (operator : ℕ) (event : Event F) (events : List (Event F))
    → flat_map (asked_of b operator) (moments h operator (event ∷ events)) ≡ request_on b h operator event.stamp (request_in event.mark)
    ++ flat_map (asked_of b operator) (moments (host_after_event h operator event) operator events)
book_trace_step b h operator event events =
    book_first b h operator event.stamp (request_in event.mark) (moments (host_after_event h operator event) operator events)
