-- The worked example of a pledge whose receipt is replaced twice, with the trace of each slot.
use Rattle.pawn_book.specs.BookStep.{BookValue, Denied, book_after, book_step}
use Rattle.pawn_book.specs.Common.{Command, Fixed, Issued, PledgeValue, Receipt, Stamp, free, ring, ring_opening}
use Rattle.pawn_book.specs.Machines.{solo, solo_reply}
use Rattle.pawn_book.specs.Traces.{SlotEvent, Entered, Did, slot_events}
use Rattle.pawn_book.specs.declared.refusal.Refusal.TheVariants.{NoSuchReceipt}
use Rattle.pawn_book.specs.declared.request.BearerRequest.TheVariants.{OnPledge as OnReceipt}
use Rattle.pawn_book.specs.declared.request.BrokerRequest.TheVariants.{TakePledge, OnPledge}
use Rattle.pawn_book.specs.declared.request.Caller.{Caller}
use Rattle.pawn_book.specs.declared.request.Caller.TheVariants.{Broker}
use Rattle.pawn_pledge.specs.declared.command.Paper.{Paper}
use Rattle.pawn_pledge.specs.declared.record.Issue.{Issue}
use Rattle.pawn_terms.specs.Worked.{date}
use Rattle.std.specs.Prelude.{◌≡◌, ℕ, true, false, List, [], ◌∷◌, ◌++◌, Option, Some, None, codes}

-- the stamp of the day on which the pledge is taken, with a word
abbrev pub at : ℕ → Stamp
at word = record { day = date 2024 1 31; word = word }

-- the receipt of pledge 1 with a word
abbrev pub receipt : ℕ → Receipt
receipt word = record { number = 1; secret = word }

-- book 7 with the key 5, and with terms without charges
abbrev pub one_book : Option BookValue
one_book = Some (record { key = 5; name = codes "High Street"; capacity = 1; terms = free ∷ []; pledges = []; imported = None })

-- the events of a slot of the book, request by request
abbrev pub events_alone : List Receipt → Option BookValue → List (Stamp × Caller) → List SlotEvent
events_alone slot before [] = []
events_alone slot before (asked ∷ rest) =
    let outcome = book_step before 9 7 asked.0 asked.1 in
    slot_events slot before asked.0 asked.1 outcome ++ events_alone slot (book_after before outcome) rest

-- a statutory declaration
abbrev pub declare : Command
declare = Command.Declare Paper.Sworn

-- a ring is taken with word 1, its receipt is declared lost with word 2, it is put on hold, and its receipt is declared
-- lost with word 3
abbrev pub lost_twice : List (Stamp × Caller)
lost_twice =
    (at 1, Broker 5 (TakePledge (ring_opening (Fixed 10000) false None)))
    ∷ (at 2, Broker 5 (OnPledge 1 declare))
    ∷ (at 9, Broker 5 (OnPledge 1 Command.Hold))
    ∷ (at 3, Broker 5 (OnPledge 1 declare))
    ∷ []

-- the trace of a slot
abbrev pub trace_of : List Receipt → List SlotEvent
trace_of slot = events_alone slot one_book lost_twice

-- the secret that was issued in this way with a word
abbrev pub issued : Issue → ℕ → Issued
issued sort word = record { day = date 2024 1 31; sort = sort; secret = word }

-- the ring after the first declaration
abbrev pub declared_ring : PledgeValue
declared_ring = record (ring 10000) { secrets = issued Issue.Opening 1 ∷ issued Issue.Sworn 2 ∷ [] }

-- the ring on hold, after the second declaration
abbrev pub held_ring : PledgeValue
held_ring = record (ring 10000) {
  secrets = issued Issue.Opening 1 ∷ issued Issue.Sworn 2 ∷ issued Issue.Sworn 3 ∷ [];
  standing = record (ring 10000).standing { held = true };
}

-- a slot's trace has the pledge as it enters the slot, and its commands up to the one that takes it out
pub record WorkedSlots : Type 0 where
  pub first : trace_of (receipt 1 ∷ []) ≡ Entered 1 (ring 10000) ∷ Did 1 (at 2) declare ∷ []
  pub second : trace_of (receipt 2 ∷ []) ≡ Entered 1 declared_ring ∷ Did 1 (at 9) Command.Hold ∷ Did 1 (at 3) declare ∷ []
  pub first_and_third : trace_of (receipt 1 ∷ receipt 3 ∷ []) ≡ Entered 1 (ring 10000) ∷ Did 1 (at 2) declare ∷ Entered 1 held_ring ∷ []
  pub first_and_second : trace_of (receipt 1 ∷ receipt 2 ∷ []) ≡ Entered 1 (ring 10000) ∷ Did 1 (at 2) declare ∷ Did 1 (at 9) Command.Hold
      ∷ Did 1 (at 3) declare ∷ []
  -- at the end the machines of receipt 1 and of receipts 1 and 2 are empty, and that of receipts 1 and 3 has the pledge
  pub first_left : solo (receipt 1 ∷ []) (trace_of (receipt 1 ∷ [])) 1 ≡ None
  pub both_left : solo (receipt 1 ∷ receipt 2 ∷ []) (trace_of (receipt 1 ∷ receipt 2 ∷ [])) 1 ≡ None
  pub third_is_in : solo (receipt 1 ∷ receipt 3 ∷ []) (trace_of (receipt 1 ∷ receipt 3 ∷ [])) 1 ≡ Some held_ring
  -- a repayment by the first receipt is then refused like one by a receipt that was never issued, even on an earlier
  -- day
  pub first_unknown : solo_reply (receipt 1 ∷ []) (trace_of (receipt 1 ∷ [])) 7 (record { day = 0; word = 0 })
      (OnReceipt (receipt 1) (Command.Repay 1 100)) ≡ Denied NoSuchReceipt
