-- The headline theorem: each settled answer is the reply of a simple machine that is fed only one slot's trace.
use Rattle.pawn_book.specs.declared.refusal.Refusal.TheVariants.{Full, Memory, Store}
use Rattle.pawn_host.specs.Common.{Answered, Bearer, BearerRequest, Denied, Host, Out, Receipt, Request, SaysRequest}
use Rattle.pawn_host.specs.Common.{Stamp, book_trace, get, is_slots, reply_alone, slot_trace, solo_reply}
use Rattle.pawn_host.specs.Keeps.{Start, Kept, IsRun}
use Rattle.pawn_host.specs.Run.{Item, events, said_text}
use Rattle.std.specs.Prelude.{◌≡◌, ◌≢◌, ℕ, List, true, Some, Ok, slice_get, take}

-- the bytes of a reply
abbrev pub reply_bytes : Out → List ℕ
reply_bytes out = said_text (Answered out)

-- the answer is none of `Full`, `Memory` and `Store`
abbrev pub IsSettled : List ℕ → Type 0
IsSettled answer = (answer ≢ reply_bytes (Denied Full)) × (answer ≢ reply_bytes (Denied Memory)) × (answer ≢ reply_bytes (Denied Store))

-- the answer to a request on a book is the reply of that book alone after the earlier requests on it, whatever requests
-- on other books were served
abbrev pub BookAnswersAlone : Host → ℕ → List Item → Item → List ℕ → Type 0
BookAnswersAlone h operator before item answer =
    (request : Request)
    → SaysRequest item.bytes (Ok request) → IsSettled answer
    → answer ≡ reply_bytes
    (reply_alone (get h.books request.book) operator request.book (book_trace request.book h operator (events before)) item.stamp request.caller)

-- a bearer's request on book b
abbrev pub by_bearer : ℕ → BearerRequest → Request
by_bearer b asked = record { book = b; caller = Bearer asked }

-- the answer to a slot's request is the reply of the slot alone after its own earlier trace, whatever else was served
abbrev pub SlotAnswersAlone : Host → ℕ → List Item → Item → List ℕ → Type 0
SlotAnswersAlone h operator before item answer =
    (b : ℕ) (slot : List Receipt) (asked : BearerRequest)
    → SaysRequest item.bytes (Ok (by_bearer b asked)) → is_slots slot asked ≡ true → IsSettled answer
    → answer ≡ reply_bytes (solo_reply slot (slot_trace b slot h operator (events before)) b item.stamp asked)

-- each settled answer of a run is that of its book alone, and that of its slot alone
pub record AnswerAlone (h : Host) (operator : ℕ) (items : List Item) (answers : List (List ℕ)) : Type 0 where
  pub books : (i : ℕ) (item : Item) (answer : List ℕ)
      → slice_get items i ≡ Some item → slice_get answers i ≡ Some answer → BookAnswersAlone h operator (take i items) item answer
  pub slots : (i : ℕ) (item : Item) (answer : List ℕ)
      → slice_get items i ≡ Some item → slice_get answers i ≡ Some answer → SlotAnswersAlone h operator (take i items) item answer

-- a run of these items led to these answers, and each settled answer is that of its book or slot alone
pub record IsRunOfSlots (start : Start) (given : List (Stamp × List ℕ)) (answers : List (List ℕ)) (kept : Kept) : Type 0 where
  pub run : IsRun start given answers kept
  pub alone : AnswerAlone start.host start.operator run.items answers
