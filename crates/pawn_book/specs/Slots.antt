-- The laws of slots: a settled reply to a slot's own request depends on nothing but the slot's trace.
use Rattle.pawn_book.specs.BookStep.{BookValue, Out, Outcome, Refuses, Says, Makes, out_of, bearer_step, live_at}
use Rattle.pawn_book.specs.BookStep.{pledge_in}
use Rattle.pawn_book.specs.Common.{Changed, Command, Done, Each, IsReplacing, IsSpent, PledgeValue, Receipt, Stamp}
use Rattle.pawn_book.specs.Common.{list_any, pledge_step}
use Rattle.pawn_book.specs.HostStep.{Host, host_step}
use Rattle.pawn_book.specs.Laws.{Asks}
use Rattle.pawn_book.specs.Machines.{is_slots, no_pledge, reply_alone, solo, solo_reply, solo_step}
use Rattle.pawn_book.specs.Plans.{next_host}
use Rattle.pawn_book.specs.Runs.{Event, run_host, is_settled}
use Rattle.pawn_book.specs.Traces.{SlotEvent, Entered, Did, book_trace, slot_of, slot_trace, slot_events}
use Rattle.pawn_book.specs.declared.change.Change.{Change}
use Rattle.pawn_book.specs.declared.refusal.Refusal.TheVariants.{NoSuchReceipt}
use Rattle.pawn_book.specs.declared.reply.Reply.{Reply}
use Rattle.pawn_book.specs.declared.request.BearerRequest.{BearerRequest}
use Rattle.pawn_book.specs.declared.request.BearerRequest.TheVariants.{Present, OnPledge as OnReceipt}
use Rattle.pawn_book.specs.declared.request.Caller.TheVariants.{Bearer}
use Rattle.pawn_book.specs.declared.request.Request.{Request}
use Rattle.std.specs.FinMap.{get}
use Rattle.std.specs.Prelude.{◌≡◌, ℕ, List, [], ◌∷◌, ◌==◌, true, Option, None, Some}

-- the reply to a request after a run
abbrev pub reply_after : {F : Type 0} → Host → ℕ → List (Event F) → Stamp → Request → Out
reply_after h operator before stamp request = out_of (host_step (run_host h operator before) operator stamp request)

-- each settled reply about a book is the reply of the book alone, fed its own trace
abbrev pub BooksAnswerAlone : Type 0 → Type 0
BooksAnswerAlone F =
    (h : Host) (operator : ℕ) (before : List (Event F)) (stamp : Stamp) (request : Request)
    → is_settled (reply_after h operator before stamp request) ≡ true
    → reply_after h operator before stamp request
    ≡ reply_alone (get h.books request.book) operator request.book (book_trace request.book h operator before) stamp request.caller

-- if two runs under one operator's key begin with the same book (or none) under a number and have equal traces of it,
-- its next request gets equal settled replies
abbrev pub EqualBookTracesAnswerAlike : Type 0 → Type 0
EqualBookTracesAnswerAlike F =
    (h g : Host) (operator : ℕ) (before others : List (Event F)) (stamp : Stamp) (request : Request)
    → is_settled (reply_after h operator before stamp request) ≡ true
    → is_settled (reply_after g operator others stamp request) ≡ true
    → get h.books request.book ≡ get g.books request.book
    → book_trace request.book h operator before ≡ book_trace request.book g operator others
    → reply_after h operator before stamp request ≡ reply_after g operator others stamp request

-- no request changes another book
abbrev pub OtherBooksStay : Type 0
OtherBooksStay =
    (h : Host) (operator b : ℕ) (stamp : Stamp) (request : Request)
    → (request.book ≡ b → ⊥) → get (next_host h operator stamp request).books b ≡ get h.books b

-- a slot's machine has exactly the pledges of the book that are in the slot
abbrev pub SlotsAreHeld : Type 0 → Type 0
SlotsAreHeld F =
    (h : Host) (operator b : ℕ) (slot : List Receipt) (events : List (Event F)) (n : ℕ)
    → solo slot (slot_trace b slot h operator events) n ≡ slot_of slot (get (run_host h operator events).books b) n

-- a command is accepted, with a change
abbrev pub IsAccepted : Option PledgeValue → Stamp → Command → Type 0
IsAccepted None stamp command = ⊥
IsAccepted (Some p) stamp command = (next : PledgeValue) × (done : Done) × (pledge_step p stamp command ≡ Changed next done)

-- the machine accepts each command of a trace in its turn
abbrev pub AreAccepted : List Receipt → (ℕ → Option PledgeValue) → List SlotEvent → Type 0
AreAccepted slot pledges [] = Unit {0}
AreAccepted slot pledges (Entered n p ∷ trace) = AreAccepted slot (solo_step slot (Entered n p) pledges) trace
AreAccepted slot pledges (Did n stamp command ∷ trace) =
    IsAccepted (pledges n) stamp command × AreAccepted slot (solo_step slot (Did n stamp command) pledges) trace

-- a slot's machine accepts each command of the slot's trace in its turn
abbrev pub TracesAreAccepted : Type 0 → Type 0
TracesAreAccepted F =
    (h : Host) (operator b : ℕ) (slot : List Receipt) (events : List (Event F))
    → AreAccepted slot no_pledge (slot_trace b slot h operator events)

-- each settled reply to a slot's request is the reply of the slot's machine, fed the slot's trace
abbrev pub SlotsAnswerAlone : Type 0 → Type 0
SlotsAnswerAlone F =
    (h : Host) (operator b : ℕ) (slot : List Receipt) (before : List (Event F)) (stamp : Stamp) (asked : BearerRequest)
    → is_slots slot asked ≡ true
    → is_settled (reply_after h operator before stamp (record { book = b; caller = Bearer asked })) ≡ true
    → reply_after h operator before stamp (record { book = b; caller = Bearer asked }) ≡ solo_reply slot (slot_trace b slot h operator before) b stamp asked

-- if two runs under one operator's key have equal traces of a slot, its next request gets equal settled replies
abbrev pub EqualTracesAnswerAlike : Type 0 → Type 0
EqualTracesAnswerAlike F =
    (h g : Host) (operator b : ℕ) (slot : List Receipt) (before others : List (Event F)) (stamp : Stamp) (asked : BearerRequest)
    → is_slots slot asked ≡ true
    → is_settled (reply_after h operator before stamp (record { book = b; caller = Bearer asked })) ≡ true
    → is_settled (reply_after g operator others stamp (record { book = b; caller = Bearer asked })) ≡ true
    → slot_trace b slot h operator before ≡ slot_trace b slot g operator others
    → reply_after h operator before stamp (record { book = b; caller = Bearer asked })
    ≡ reply_after g operator others stamp (record { book = b; caller = Bearer asked })

-- the event of a command, if its outcome is a change
abbrev pub adds_event : ℕ → Stamp → Command → Outcome → List SlotEvent
adds_event n stamp command (Refuses why) = []
adds_event n stamp command (Says out) = []
adds_event n stamp command (Makes change reply) = Did n stamp command ∷ []

-- a bearer's command with a settled reply is added to the slot's trace exactly if the slot's machine accepts it with a
-- change
abbrev pub BearersAddEvents : Type 0 → Type 0
BearersAddEvents F =
    (h : Host) (operator b : ℕ) (slot : List Receipt) (before : List (Event F)) (stamp : Stamp) (r : Receipt) (command : Command)
    → is_slots slot (OnReceipt r command) ≡ true
    → is_settled (reply_after h operator before stamp (record { book = b; caller = Bearer (OnReceipt r command) })) ≡ true
    → slot_events slot (get (run_host h operator before).books b) stamp (Bearer (OnReceipt r command))
    (host_step (run_host h operator before) operator stamp (record { book = b; caller = Bearer (OnReceipt r command) }))
    ≡ adds_event r.number stamp command (bearer_step (solo slot (slot_trace b slot h operator before)) b stamp (OnReceipt r command))

-- spent receipts: replaced by a declaration, or surrendered on redemption

-- a receipt that was issued and is not live
pub record IsSpentReceipt (book : Option BookValue) (r : Receipt) : Type 0 where
  pub pledge : PledgeValue
  pub found : pledge_in book r.number ≡ Some pledge
  pub spent : IsSpent pledge r.secret

-- an accepted declaration or redemption spends each receipt of the pledge that was issued before
abbrev pub EarlierReceiptsAreSpent : Type 0
EarlierReceiptsAreSpent =
    (h : Host) (operator : ℕ) (stamp : Stamp) (request : Request) (command : Command) (r : Receipt) (p : PledgeValue) (change : Change) (reply : Reply)
    → Asks request.caller r.number command → IsReplacing command
    → pledge_in (get h.books request.book) r.number ≡ Some p → list_any (λ i. i.secret == r.secret) p.secrets ≡ true
    → host_step h operator stamp request ≡ Makes change reply
    → IsSpentReceipt (get (next_host h operator stamp request).books request.book) r

-- a spent receipt stays spent, whatever requests come
abbrev pub SpentReceiptsStaySpent : Type 0 → Type 0
SpentReceiptsStaySpent F =
    (h : Host) (operator b : ℕ) (events : List (Event F)) (r : Receipt)
    → IsSpentReceipt (get h.books b) r → IsSpentReceipt (get (run_host h operator events).books b) r

-- all receipts that a bearer presents are spent
abbrev pub PresentsSpent : Option BookValue → BearerRequest → Type 0
PresentsSpent book (Present receipts) = Each (IsSpentReceipt book) receipts
PresentsSpent book (OnReceipt r command) = IsSpentReceipt book r

-- a bearer who presents only spent receipts is answered like the bearer of a receipt that was never issued; among other
-- receipts a spent one is shown by the unknown line
pub record SpentIsUnknown : Type 0 where
  pub alone : (book : Option BookValue) (b : ℕ) (stamp : Stamp) (asked : BearerRequest)
      → PresentsSpent book asked → bearer_step (pledge_in book) b stamp asked ≡ Refuses NoSuchReceipt
  pub among_others : (book : Option BookValue) (r : Receipt) → IsSpentReceipt book r → live_at (pledge_in book) r ≡ None
