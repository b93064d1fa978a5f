-- Laws of the reading of requests and of targets.
use Rattle.pawn_base.specs.Lists.{Each}
use Rattle.pawn_book.specs.Rows.{AreReplayable}
use Rattle.pawn_book.specs.declared.request.BearerRequest.TheVariants.{Present}
use Rattle.pawn_book.specs.declared.request.Caller.{Caller}
use Rattle.pawn_wire.specs.Common.{AreFew, Bearer, Broker, Command, Import, IsCapacity, IsNumber, IsOpening, IsRequestDay}
use Rattle.pawn_wire.specs.Common.{IsText, MOST_NAME_BYTES, Operator, PutTerms, Request, TakePledge, Viewer, day_text}
use Rattle.pawn_wire.specs.Limits.{most_numeral}
use Rattle.pawn_wire.specs.Named.{number_said, day_said}
use Rattle.pawn_wire.specs.Request.{SaysRequest}
use Rattle.pawn_wire.specs.Route.{table, route_of}
use Rattle.pawn_wire.specs.Types.{Endpoint, WireFault}
use Rattle.std.specs.Prelude.{[], ◌∷◌, ◌++◌, ◌≡◌, ℕ, ◌≤◌, List, codes, Bool, true, false, ◌==◌, if◌then◌else◌, Option}
use Rattle.std.specs.Prelude.{Some, None, Result, Ok, decimal}
use Rattle.pawn_book.specs.declared.request.BrokerRequest.TheVariants as broker
use Rattle.pawn_book.specs.declared.request.BearerRequest.TheVariants as bearer
use Rattle.pawn_book.specs.declared.request.View.TheVariants as seen

-- ---- what requests may contain

-- a number of at most 12 digits
abbrev pub IsBodyNumber : ℕ → Type 0
IsBodyNumber n = n ≤ most_numeral

-- the numbers of a command have at most 12 digits, and its day is one that a request may name
abbrev pub IsCommandWithin : Command → Type 0
IsCommandWithin (Command.Draw seq pence) = IsBodyNumber seq × IsBodyNumber pence
IsCommandWithin (Command.Repay seq pence) = IsBodyNumber seq × IsBodyNumber pence
IsCommandWithin Command.Hold = Unit {0}
IsCommandWithin Command.Release = Unit {0}
IsCommandWithin (Command.Declare paper) = Unit {0}
IsCommandWithin (Command.AskBooking day window) = IsRequestDay day × IsBodyNumber window
IsCommandWithin Command.CancelBooking = Unit {0}
IsCommandWithin (Command.DecideBooking decision) = Unit {0}
IsCommandWithin (Command.Redeem paid) = IsBodyNumber paid
IsCommandWithin (Command.Sell net) = IsBodyNumber net
IsCommandWithin (Command.Extend until) = IsRequestDay until

-- each part of the caller and of what is asked is within its limits
abbrev pub IsCallerWithin : Caller → Type 0
IsCallerWithin (Operator key new_book) = IsText MOST_NAME_BYTES new_book.name × IsCapacity new_book.capacity
IsCallerWithin (Broker key (PutTerms terms)) = Unit {0}
IsCallerWithin (Broker key (TakePledge opening)) = IsOpening opening
IsCallerWithin (Broker key (broker.OnPledge n command)) = IsNumber n × IsCommandWithin command
IsCallerWithin (Broker key (Import import_key rows)) = AreReplayable rows.terms rows.pledges
IsCallerWithin (Viewer key (seen.Pledge n)) = IsNumber n
IsCallerWithin (Viewer key (seen.Sheet day)) = IsRequestDay day
IsCallerWithin (Viewer key seen.Rows) = Unit {0}
IsCallerWithin (Bearer (Present receipts)) = AreFew receipts
IsCallerWithin (Bearer (bearer.OnPledge receipt command)) = IsNumber receipt.number × IsCommandWithin command

-- a request that is read has a valid book number, and each of its parts is within its limits
abbrev pub RequestsAreWithin : Type 0
RequestsAreWithin = (bytes : List ℕ) (request : Request) → SaysRequest bytes (Ok request) → IsNumber request.book × IsCallerWithin request.caller

-- bytes can be read in one way only
abbrev pub ReadingIsUnique : Type 0
ReadingIsUnique = (bytes : List ℕ) (one other : Result Request WireFault) → SaysRequest bytes one → SaysRequest bytes other → one ≡ other

-- ---- targets

-- the number of a book or a pledge has exactly one spelling
pub record NumbersAreSaid : Type 0 where
  pub said : (n : ℕ) → IsNumber n → number_said (decimal n) ≡ Some n
  pub is : (n : ℕ) (text : List ℕ) → number_said text ≡ Some n → IsNumber n × (text ≡ decimal n)
  pub leading_zero : (rest : List ℕ) → number_said (48 ∷ rest) ≡ None

-- a day has exactly one spelling
pub record DaysAreSaid : Type 0 where
  pub said : (day : ℕ) → IsRequestDay day → day_said (day_text day) ≡ Some day
  pub is : (day : ℕ) (text : List ℕ) → day_said text ≡ Some day → IsRequestDay day × (text ≡ day_text day)

-- an example for a name in braces: 7 for the book, 12 for a pledge, 2024-03-04 for a day
abbrev pub example_for : ℕ → List ℕ
example_for name = if name == 98 then codes "7" else (if name == 100 then codes "2024-03-04" else codes "12")

-- the form of a target, with examples in place of its names in braces
abbrev pub with_examples : Bool → List ℕ → List ℕ
with_examples in_braces [] = []
with_examples true (c ∷ form) = if c == 125 then with_examples false form else example_for c ++ with_examples true form
with_examples false (c ∷ form) = if c == 123 then with_examples true form else c ∷ with_examples false form

-- the example that a target for the endpoint has besides its book
abbrev pub item_for : Endpoint → Option (List ℕ)
item_for Endpoint.Create = None
item_for Endpoint.PutTerms = None
item_for Endpoint.TakePledge = None
item_for Endpoint.Show = Some (codes "12")
item_for (Endpoint.OnPledge action) = Some (codes "12")
item_for Endpoint.ShowDay = Some (codes "2024-03-04")
item_for Endpoint.Export = None
item_for Endpoint.Import = None
item_for Endpoint.Present = None
item_for (Endpoint.OnReceipt action) = None

-- the target of a row of the table is found, with its endpoint and the parts that it names
abbrev pub IsTargetFound : List ℕ × Endpoint → Type 0
IsTargetFound row =
    route_of (with_examples false row.0) ≡ Some (record { endpoint = row.1; book = Some (codes "7"); item = item_for row.1 })

abbrev pub TargetsAreFound : Type 0
TargetsAreFound = Each IsTargetFound table
