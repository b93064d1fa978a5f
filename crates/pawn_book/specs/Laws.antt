-- Laws of books: properties of every book, whatever requests come.
use Rattle.pawn_book.specs.BookStep.{BookValue, Replied, Says, Makes, book_after, changed_book, book_step, live_at}
use Rattle.pawn_book.specs.BookStep.{pledge_from, pledge_in}
use Rattle.pawn_book.specs.Common.{Command, Done, MayExtend, PledgeValue, Stamp, end_of, entry_command}
use Rattle.pawn_book.specs.Sound.{IsSoundBook}
use Rattle.pawn_book.specs.declared.change.Change.{Change}
use Rattle.pawn_book.specs.declared.reply.Reply.{Reply}
use Rattle.pawn_book.specs.declared.reply.Reply.TheVariants.{Commanded}
use Rattle.pawn_book.specs.declared.request.BearerRequest.{BearerRequest}
use Rattle.pawn_book.specs.declared.request.BrokerRequest.{BrokerRequest}
use Rattle.pawn_book.specs.declared.request.Caller.{Caller}
use Rattle.pawn_book.specs.declared.request.Caller.TheVariants.{Operator, Broker, Viewer, Bearer}
use Rattle.pawn_debt.specs.declared.entry.Sort.{Sort}
use Rattle.std.specs.Prelude.{◌≡◌, ℕ, List, [], ◌∷◌, Option, None, Some, is_some, true}
use Rattle.pawn_book.specs.declared.request.BrokerRequest.TheVariants as asked
use Rattle.pawn_book.specs.declared.request.BearerRequest.TheVariants as presented

-- the book after a list of requests
abbrev pub book_run : Option BookValue → ℕ → ℕ → List (Stamp × Caller) → Option BookValue
book_run before operator b [] = before
book_run before operator b (asked ∷ rest) =
    book_run (book_after before (book_step before operator b asked.0 asked.1)) operator b rest

-- a book differs after a change
abbrev pub BookChangesDiffer : Type 0
BookChangesDiffer =
    (before : Option BookValue) (operator b : ℕ) (stamp : Stamp) (caller : Caller) (change : Change) (reply : Reply)
    → book_step before operator b stamp caller ≡ Makes change reply → changed_book before change ≡ before → ⊥

-- a broker's request for terms, a pledge or an import
abbrev pub IsSetUp : BrokerRequest → Type 0
IsSetUp (asked.PutTerms new) = Unit {0}
IsSetUp (asked.TakePledge opening) = Unit {0}
IsSetUp (asked.OnPledge n command) = ⊥
IsSetUp (asked.Import key rows) = Unit {0}

-- a request for a book, terms, a pledge or an import
abbrev pub IsMaking : Caller → Type 0
IsMaking (Operator key new) = Unit {0}
IsMaking (Broker key request) = IsSetUp request
IsMaking (Viewer key view) = ⊥
IsMaking (Bearer request) = ⊥

-- a request for a book, terms, a pledge or an import that made a change gets the same answer when it is repeated, and
-- makes no change, whatever requests came in between, on any day and with any word
abbrev pub RepeatsActOnce : Type 0
RepeatsActOnce =
    (before : Option BookValue) (operator b : ℕ) (stamp again : Stamp) (caller : Caller) (change : Change) (reply : Reply) (later : List (Stamp × Caller))
    → IsMaking caller → book_step before operator b stamp caller ≡ Makes change reply
    → book_step (book_run (changed_book before change) operator b later) operator b again caller ≡ Says (Replied reply)

-- the command of a broker's request, if it is one
abbrev pub broker_command : BrokerRequest → Option Command
broker_command (asked.PutTerms new) = None
broker_command (asked.TakePledge opening) = None
broker_command (asked.OnPledge n command) = Some command
broker_command (asked.Import key rows) = None

-- the command of a bearer's request, if it is one
abbrev pub bearer_command : BearerRequest → Option Command
bearer_command (presented.Present receipts) = None
bearer_command (presented.OnPledge receipt command) = Some command

-- the command of a caller's request, if it is one
abbrev pub command_of : Caller → Option Command
command_of (Operator key new) = None
command_of (Broker key request) = broker_command request
command_of (Viewer key view) = None
command_of (Bearer request) = bearer_command request

-- a broker's request is this command on pledge n
abbrev pub BrokerAsks : BrokerRequest → ℕ → Command → Type 0
BrokerAsks (asked.PutTerms new) n command = ⊥
BrokerAsks (asked.TakePledge opening) n command = ⊥
BrokerAsks (asked.OnPledge m own) n command = (m ≡ n) × (own ≡ command)
BrokerAsks (asked.Import key rows) n command = ⊥

-- a bearer's request is this command on pledge n
abbrev pub BearerAsks : BearerRequest → ℕ → Command → Type 0
BearerAsks (presented.Present receipts) n command = ⊥
BearerAsks (presented.OnPledge receipt own) n command = (receipt.number ≡ n) × (own ≡ command)

-- a caller's request is this command on pledge n
abbrev pub Asks : Caller → ℕ → Command → Type 0
Asks (Operator key new) n command = ⊥
Asks (Broker key request) n command = BrokerAsks request n command
Asks (Viewer key view) n command = ⊥
Asks (Bearer request) n command = BearerAsks request n command

-- if a bearer's request is a command, its receipt is live
abbrev pub IsStillLive : Option BookValue → BearerRequest → Type 0
IsStillLive book (presented.Present receipts) = Unit {0}
IsStillLive book (presented.OnPledge receipt command) = is_some (live_at (pledge_in book) receipt) ≡ true

-- if the caller is a bearer with a command, its receipt is still live
abbrev pub StillPasses : Option BookValue → Caller → Type 0
StillPasses book (Operator key new) = Unit {0}
StillPasses book (Broker key request) = Unit {0}
StillPasses book (Viewer key view) = Unit {0}
StillPasses book (Bearer request) = IsStillLive book request

-- A drawing or repayment that was entered gets the same answer when it is repeated, and enters nothing, on any day,
-- whatever requests came in between. This holds for the broker, and for a bearer whose receipt is still live.
abbrev pub BookEntriesActOnce : Type 0
BookEntriesActOnce =
    (before : BookValue) (operator b : ℕ) (stamp again : Stamp) (caller : Caller) (n : ℕ) (sort : Sort) (seq pence : ℕ)
    (change : Change) (reply : Reply) (later : List (Stamp × Caller))
    → IsSoundBook before → Asks caller n (entry_command sort seq pence) → book_step (Some before) operator b stamp caller ≡ Makes change reply
    → StillPasses (book_run (changed_book (Some before) change) operator b later) caller
    → book_step (book_run (changed_book (Some before) change) operator b later) operator b again caller ≡ Says (Replied reply)

-- the caller has access: a broker by the book's key, and a bearer's command by a live receipt
abbrev pub Passes : Option BookValue → Caller → Type 0
Passes book (Operator key new) = Unit {0}
Passes book (Broker key request) = (at : BookValue) × (book ≡ Some at) × (at.key ≡ key)
Passes book (Viewer key view) = (at : BookValue) × (book ≡ Some at) × (at.key ≡ key)
Passes book (Bearer request) = IsStillLive book request

-- The same holds for any other caller that has access: an entry of a bearer is answered to the broker and to the bearer
-- of a later receipt, and an entry of the broker is answered to a bearer.
abbrev pub EntriesActOnceForAll : Type 0
EntriesActOnceForAll =
    (before : BookValue) (operator b : ℕ) (stamp again : Stamp) (caller other : Caller) (n : ℕ) (sort : Sort) (seq pence : ℕ)
    (change : Change) (reply : Reply) (later : List (Stamp × Caller))
    → IsSoundBook before → Asks caller n (entry_command sort seq pence) → Asks other n (entry_command sort seq pence)
    → book_step (Some before) operator b stamp caller ≡ Makes change reply
    → Passes (book_run (changed_book (Some before) change) operator b later) other
    → book_step (book_run (changed_book (Some before) change) operator b later) operator b again other ≡ Says (Replied reply)

-- an extension to the present end is answered with that end and changes nothing, if the pledge may be extended
abbrev pub SameEndIsReplied : Type 0
SameEndIsReplied =
    (book : BookValue) (operator b n : ℕ) (stamp : Stamp) (p : PledgeValue)
    → pledge_from 1 book.pledges n ≡ Some p → MayExtend p stamp.day
    → book_step (Some book) operator b stamp (Broker book.key (asked.OnPledge n (Command.Extend (end_of p)))) ≡ Says
    (Replied (Commanded n (Done.Extended (end_of p))))

-- An extension that was made gets the same answer when it is repeated, and changes nothing, whatever requests came in
-- between. Its end must still be the present one, and the pledge must be one that may be extended.
abbrev pub BookExtensionsActOnce : Type 0
BookExtensionsActOnce =
    (before : BookValue) (operator b key n until : ℕ) (stamp again : Stamp) (change : Change) (reply : Reply) (later : List (Stamp × Caller)) (p : PledgeValue)
    → book_step (Some before) operator b stamp (Broker key (asked.OnPledge n (Command.Extend until))) ≡ Makes change reply
    → pledge_in (book_run (changed_book (Some before) change) operator b later) n ≡ Some p → end_of p ≡ until → MayExtend p again.day
    → book_step (book_run (changed_book (Some before) change) operator b later) operator b again (Broker key (asked.OnPledge n (Command.Extend until)))
    ≡ Says (Replied reply)
