-- Laws of the split of a stream, of runs, and of the slots in them.
use Rattle.httparse.specs.Spans.{RequestOverflows}
use Rattle.pawn_host.specs.Common.{BearerRequest, EndsInTarget, HasNoRequest, HeadFault, Host, Mark, ReadsRequest}
use Rattle.pawn_host.specs.Common.{Receipt, Request, RequestHead, SaysRequest, WireFault, book_trace, concat, get}
use Rattle.pawn_host.specs.Common.{is_slots, most_fields, most_head, no_memory, no_store, read_as, slot_trace}
use Rattle.pawn_host.specs.Headline.{AnswerAlone, IsSettled, by_bearer}
use Rattle.pawn_host.specs.Run.{Item, IsMarked, input_of, events, host_after_run, replies}
use Rattle.pawn_host.specs.Split.{Ending, cut, faulted, most_requests, IsCutHead, IsRequest, HasFault, PassesOver}
use Rattle.pawn_host.specs.Split.{ClosesAfter, StopsAt, Splits, Begins, BeginsAndGoesOn, IsWanting}
use Rattle.pawn_reply.specs.declared.fault.HeadFault.TheVariants.{BadHead}
use Rattle.std.specs.Prelude.{◌≡◌, ℕ, ◌<◌, ◌≤◌, ◌⊎◌, All, Bool, true, List, [], ◌∷◌, ◌++◌, Some, Ok, length, map}
use Rattle.std.specs.Prelude.{slice_get, take}

-- the rest is the beginning of a head, but it can't become a head with no more fields than are allowed
abbrev pub IsOpen : List ℕ → Type 0
IsOpen rest = IsCutHead rest × RequestOverflows most_fields rest

-- one of the two is a cut, and the other the fault of a bad head
abbrev pub AreCutAndFault : Ending → Ending → Type 0
AreCutAndFault e f = ((e ≡ cut) × (f ≡ faulted BadHead)) ⊎ ((e ≡ faulted BadHead) × (f ≡ cut))

-- the rest after these requests may count as either of the two endings
abbrev pub IsLeftOpen : List ℕ → List (List ℕ) → Ending → Ending → Type 0
IsLeftOpen stream requests e f = (rest : List ℕ) × PassesOver stream requests rest × IsOpen rest × AreCutAndFault e f

-- a stream has one split; its ending may be one of two only if the rest is open
abbrev pub SplitIsUnique : Type 0
SplitIsUnique =
    (stream : List ℕ) (a b : List (List ℕ)) (e f : Ending) → Splits stream a e → Splits stream b f
    → (a ≡ b) × ((e ≡ f) ⊎ IsLeftOpen stream a e f)

-- an open rest ends inside its target, or can become a head with too many fields
abbrev pub AmbiguousEnds : Type 0
AmbiguousEnds =
    (rest : List ℕ) → IsOpen rest
    → ((more : List ℕ) × (h : RequestHead) × ReadsRequest (rest ++ more) h [] × (most_fields < length h.fields)) ⊎ EndsInTarget rest

-- if a split ends before the limit, the rest does not begin with a whole request
abbrev pub SplitEndsEarly : Type 0
SplitEndsEarly =
    (e : Ending) (n : ℕ) (rest : List ℕ) → StopsAt e n rest → n < most_requests
    → (request more : List ℕ) (closes : Bool) → rest ≡ request ++ more → IsRequest request closes → ⊥

-- requests that a stream begins with are the first of its split; if a further request is there, the split has one more
abbrev pub SplitBegins : Type 0
SplitBegins =
    (stream : List ℕ) (requests all : List (List ℕ)) (e : Ending) → Splits stream all e
    → (Begins stream requests → (more : List (List ℕ)) × (all ≡ requests ++ more))
    × (BeginsAndGoesOn stream requests → (next : List ℕ) × (more : List (List ℕ)) × (all ≡ requests ++ next ∷ more))

-- the requests, joined together, are a prefix of the stream, and do not exceed the limit
abbrev pub SplitIsFront : Type 0
SplitIsFront =
    (stream : List ℕ) (requests : List (List ℕ)) (e : Ending) → Splits stream requests e
    → (length requests ≤ most_requests) × ((rest : List ℕ) × (stream ≡ concat requests ++ rest))

-- whether an item was refused, because memory ran out or because the store failed
pub data Failure : Type 0 where
  succeeded : Failure
  for_memory : Failure
  by_store : Failure

abbrev pub failure_of_mark : Mark WireFault → Failure
failure_of_mark (read_as said) = succeeded
failure_of_mark no_memory = for_memory
failure_of_mark no_store = by_store

abbrev pub failures : List Item → List Failure
failures items = map (λ i. failure_of_mark i.mark) items

-- the stamps and bytes of the items, and which items were refused, determine the items
abbrev pub ItemsAreUnique : Type 0
ItemsAreUnique =
    (a b : List Item) → All (IsMarked ⊥) a → All (IsMarked ⊥) b → map input_of a ≡ map input_of b → failures a ≡ failures b → a ≡ b

-- items with the same stamps and marks lead to the same host and the same replies, whatever their bytes
abbrev pub RunReadsEvents : Type 0
RunReadsEvents =
    (h : Host) (operator : ℕ) (a b : List Item) → events a ≡ events b
    → (host_after_run h operator a ≡ host_after_run h operator b) × (replies h operator a ≡ replies h operator b)

-- two runs one after the other are one run
abbrev pub RunsCompose : Type 0
RunsCompose =
    (h : Host) (operator : ℕ) (a b : List Item)
    → (host_after_run h operator (a ++ b) ≡ host_after_run (host_after_run h operator a) operator b)
    × (replies h operator (a ++ b) ≡ replies h operator a ++ replies (host_after_run h operator a) operator b)

-- after a request that closes the connection, or after as many requests as are answered, nothing more is wanted
abbrev pub NothingIsWanted : Type 0
NothingIsWanted =
    (come : List ℕ) (requests : List (List ℕ)) (rest : List ℕ)
    → (ClosesAfter come requests → IsWanting come → ⊥)
    × (PassesOver come requests rest → most_requests ≤ length requests → IsWanting come → ⊥)

-- the rest can still become a head with no more fields than are allowed, if its length is ignored
abbrev pub MayGoOn : List ℕ → Type 0
MayGoOn rest =
    (length rest < most_head)
    × ((more : List ℕ) × (h : RequestHead) × (after : List ℕ) × ReadsRequest (rest ++ more) h after × (length h.fields ≤ most_fields))

-- if the rest can still become a head, and does not hold one yet, it has no fault; if it can't, it has the fault of a
-- bad head
abbrev pub FaultIsExact : Type 0
FaultIsExact =
    (rest : List ℕ)
    → (MayGoOn rest → HasNoRequest rest → (f : HeadFault) → HasFault rest f → ⊥)
    × ((MayGoOn rest → ⊥) → (length rest < most_head) → HasFault rest BadHead)

-- each settled answer to the items of a run is that of its book or slot alone
abbrev pub RunsAnswerAlone : Type 0
RunsAnswerAlone = (h : Host) (operator : ℕ) (items : List Item) → All (IsMarked ⊥) items → AnswerAlone h operator items (replies h operator items)

-- Take two runs with the same operator's key, from hosts that have the same book under a number, or none. If both runs
-- have the same trace of that book so far, the same request on it with the same stamp gets the same answer in both,
-- provided that both answers are settled.
abbrev pub EqualBookTracesReplyAlike : Type 0
EqualBookTracesReplyAlike =
    (h g : Host) (operator : ℕ) (items others : List Item) → All (IsMarked ⊥) items → All (IsMarked ⊥) others
    → (i j : ℕ) (item twin : Item) (answer other : List ℕ)
    → slice_get items i ≡ Some item → slice_get (replies h operator items) i ≡ Some answer
    → slice_get others j ≡ Some twin → slice_get (replies g operator others) j ≡ Some other
    → (request : Request)
    → SaysRequest item.bytes (Ok request) → SaysRequest twin.bytes (Ok request) → item.stamp ≡ twin.stamp
    → IsSettled answer → IsSettled other
    → get h.books request.book ≡ get g.books request.book
    → book_trace request.book h operator (events (take i items)) ≡ book_trace request.book g operator (events (take j others))
    → answer ≡ other

-- Take two runs with the same operator's key. If both have the same trace of a slot so far, the same request of the
-- slot with the same stamp gets the same answer in both, provided that both answers are settled.
abbrev pub EqualTracesReplyAlike : Type 0
EqualTracesReplyAlike =
    (h g : Host) (operator : ℕ) (items others : List Item) → All (IsMarked ⊥) items → All (IsMarked ⊥) others
    → (i j : ℕ) (item twin : Item) (answer other : List ℕ)
    → slice_get items i ≡ Some item → slice_get (replies h operator items) i ≡ Some answer
    → slice_get others j ≡ Some twin → slice_get (replies g operator others) j ≡ Some other
    → (b : ℕ) (slot : List Receipt) (asked : BearerRequest)
    → SaysRequest item.bytes (Ok (by_bearer b asked)) → SaysRequest twin.bytes (Ok (by_bearer b asked)) → item.stamp ≡ twin.stamp
    → is_slots slot asked ≡ true → IsSettled answer → IsSettled other
    → slot_trace b slot h operator (events (take i items)) ≡ slot_trace b slot g operator (events (take j others))
    → answer ≡ other
