-- The simple machines: a book that is fed nothing but its trace, and a slot that is fed nothing but its trace.
use Rattle.pawn_book.specs.BookStep.{BookValue, Out, out_of, book_step, bearer_step}
use Rattle.pawn_book.specs.Laws.{book_run}
use Rattle.pawn_book.specs.Traces.{SlotEvent, Entered, Did, within_slot}
use Rattle.pawn_book.specs.declared.request.BearerRequest.{BearerRequest}
use Rattle.pawn_book.specs.declared.request.BearerRequest.TheVariants.{Present, OnPledge as OnReceipt}
use Rattle.pawn_book.specs.declared.request.Caller.{Caller}
use Rattle.pawn_pledge.specs.Pledge.{PledgeValue}
use Rattle.pawn_pledge.specs.Step.{StepResult, Changed, pledge_step}
use Rattle.pawn_pledge.specs.declared.command.Command.{Command}
use Rattle.pawn_pledge.specs.declared.command.Stamp.{Stamp}
use Rattle.pawn_pledge.specs.declared.receipt.Receipt.{Receipt}
use Rattle.std.specs.List.{list_any, list_all}
use Rattle.std.specs.Prelude.{ℕ, List, [], ◌∷◌, ◌==◌, Bool, ◌&&◌, Option, None, Some, if◌then◌else◌}

-- book b's reply to a request after a trace, without a limit on rows
abbrev pub reply_alone : Option BookValue → ℕ → ℕ → List (Stamp × Caller) → Stamp → Caller → Out
reply_alone book operator b trace stamp caller = out_of (book_step (book_run book operator b trace) operator b stamp caller)

-- A slot's machine is a map from numbers to pledges. This is the map with pledge p at number n, which is in it only if
-- a receipt of the slot is its live one.
abbrev pub with_pledge : List Receipt → ℕ → PledgeValue → (ℕ → Option PledgeValue) → ℕ → Option PledgeValue
with_pledge slot n p pledges m = if m == n then within_slot slot n (Some p) else pledges m

-- the map after the result of a command; a command that is refused, or answered without a change, does not change the
-- map
abbrev pub after_step : List Receipt → ℕ → StepResult → (ℕ → Option PledgeValue) → ℕ → Option PledgeValue
after_step slot n (Changed p done) pledges = with_pledge slot n p pledges
after_step slot n other pledges = pledges

-- the map after a command, which is carried out by the pledge's own rules
abbrev pub after_command : List Receipt → ℕ → Stamp → Command → Option PledgeValue → (ℕ → Option PledgeValue) → ℕ → Option PledgeValue
after_command slot n stamp command None pledges = pledges
after_command slot n stamp command (Some p) pledges = after_step slot n (pledge_step p stamp command) pledges

-- the map after one event: a pledge enters, or a command on it is carried out
abbrev pub solo_step : List Receipt → SlotEvent → (ℕ → Option PledgeValue) → ℕ → Option PledgeValue
solo_step slot (Entered n p) pledges = with_pledge slot n p pledges
solo_step slot (Did n stamp command) pledges = after_command slot n stamp command (pledges n) pledges

-- the map after a list of events
abbrev pub solo_from : List Receipt → (ℕ → Option PledgeValue) → List SlotEvent → ℕ → Option PledgeValue
solo_from slot pledges [] = pledges
solo_from slot pledges (event ∷ trace) = solo_from slot (solo_step slot event pledges) trace

-- the empty map
abbrev pub no_pledge : ℕ → Option PledgeValue
no_pledge n = None

-- the map of a slot after its trace, from the empty map
abbrev pub solo : List Receipt → List SlotEvent → ℕ → Option PledgeValue
solo slot trace = solo_from slot no_pledge trace

-- the machine's reply to a bearer, by the rules of a book that has these pledges and no others
abbrev pub solo_reply : List Receipt → List SlotEvent → ℕ → Stamp → BearerRequest → Out
solo_reply slot trace b stamp asked = out_of (bearer_step (solo slot trace) b stamp asked)

-- the receipt is in the slot
abbrev pub is_in : List Receipt → Receipt → Bool
is_in slot r = list_any (λ t. (t.number == r.number) && (t.secret == r.secret)) slot

-- the request is the slot's: it presents only receipts of the slot
abbrev pub is_slots : List Receipt → BearerRequest → Bool
is_slots slot (Present receipts) = list_all (is_in slot) receipts
is_slots slot (OnReceipt receipt command) = is_in slot receipt
