-- The laws of slots pass by pass: first for slots of one receipt and for runs that have only some kinds of requests.
use Rattle.pawn_book.specs.Common.{Command, IsReplacing, Receipt, Stamp}
use Rattle.pawn_book.specs.HostStep.{Host}
use Rattle.pawn_book.specs.Laws.{Asks}
use Rattle.pawn_book.specs.Machines.{is_slots, solo, solo_reply}
use Rattle.pawn_book.specs.Runs.{Event, read_as, run_host, is_settled}
use Rattle.pawn_book.specs.Slots.{reply_after}
use Rattle.pawn_book.specs.Traces.{slot_of, slot_trace}
use Rattle.pawn_book.specs.declared.request.BearerRequest.{BearerRequest}
use Rattle.pawn_book.specs.declared.request.BrokerRequest.TheVariants.{TakePledge, Import}
use Rattle.pawn_book.specs.declared.request.Caller.{Caller}
use Rattle.pawn_book.specs.declared.request.Caller.TheVariants.{Broker, Bearer}
use Rattle.pawn_book.specs.declared.request.Request.{Request}
use Rattle.std.specs.FinMap.{get}
use Rattle.std.specs.Prelude.{◌≡◌, ℕ, List, [], ◌∷◌, true, Ok}

-- the request opens no pledge and imports none
abbrev pub BringsNone : Caller → Type 0
BringsNone (Broker key (TakePledge opening)) = ⊥
BringsNone (Broker key (Import import_key rows)) = ⊥
BringsNone other = Unit {0}

-- the request is neither a declaration nor a redemption
abbrev pub ReplacesNone : Caller → Type 0
ReplacesNone caller = (n : ℕ) (command : Command) → Asks caller n command → IsReplacing command → ⊥

-- the request keeps every receipt as it is
abbrev pub KeepsReceipts : Caller → Type 0
KeepsReceipts caller = BringsNone caller × ReplacesNone caller

-- the caller of each request of a run has the property `Is`
abbrev pub AreAll : {F : Type 0} → (Caller → Type 0) → List (Event F) → Type 0
AreAll Is [] = Unit {0}
AreAll Is (event ∷ events) = ((request : Request) → event.mark ≡ read_as (Ok request) → Is request.caller) × AreAll Is events

-- a slot of one receipt
abbrev pub IsOne : List Receipt → Type 0
IsOne slot = (r : Receipt) × (slot ≡ r ∷ [])

-- The laws for slots with `IsSlot`, and runs whose requests have `IsAsked`. A slot's machine has exactly the pledges of
-- the book that are in the slot, and each settled reply to a slot's request is the reply of the slot's machine alone.
pub record Pass (F : Type 0) (IsAsked : Caller → Type 0) (IsSlot : List Receipt → Type 0) : Type 0 where
  pub held : (h : Host) (operator b : ℕ) (slot : List Receipt) (events : List (Event F)) (n : ℕ) → IsSlot slot → AreAll IsAsked events
      → solo slot (slot_trace b slot h operator events) n ≡ slot_of slot (get (run_host h operator events).books b) n
  pub alone : (h : Host) (operator b : ℕ) (slot : List Receipt) (before : List (Event F)) (stamp : Stamp) (asked : BearerRequest)
      → IsSlot slot → AreAll IsAsked before → is_slots slot asked ≡ true
      → is_settled (reply_after h operator before stamp (record { book = b; caller = Bearer asked })) ≡ true
      → reply_after h operator before stamp (record { book = b; caller = Bearer asked }) ≡ solo_reply slot (slot_trace b slot h operator before) b stamp asked
