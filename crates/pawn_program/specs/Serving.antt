-- Connections that are served one after the other.
use Rattle.pawn_host.specs.Keeps.{Start, Kept, GoesBy}
use Rattle.pawn_host.specs.Run.{Item, IsMarked}
use Rattle.pawn_host.specs.Session.{stamps_of}
use Rattle.pawn_host.specs.Split.{most_requests}
use Rattle.pawn_pledge.specs.declared.command.Stamp.{Stamp}
use Rattle.std.specs.List.{filter_map, flat_map}
use Rattle.std.specs.Prelude.{◌≡◌, ℕ, ◌≤◌, All, List, [], ◌∷◌, length, Option}

-- calls of an iterator returned these answers, in order
abbrev pub GivesInOrder : {S A : Type 0} → (S → Option A → S → Type 0) → S → List (Option A) → S → Type 0
GivesInOrder steps from [] to = from ≡ to
GivesInOrder {S} steps from (answer ∷ answers) to = (next : S) × steps from answer next × GivesInOrder steps next answers to

-- the stamps among the answers
abbrev pub stamps_among : List (Option Stamp) → List Stamp
stamps_among answers = filter_map (λ answer. answer) answers

-- the items of sessions, one after the other
abbrev pub items_of : List (List Item) → List Item
items_of sessions = flat_map (λ items. items) sessions

-- at most 1,000 requests of a connection are answered
abbrev pub IsSession : List Item → Type 0
IsSession items = length items ≤ most_requests

-- This many connections were answered, each with the service and the stamps as the connection before it left them.
-- Their requests are one run. The stamps that were taken are those of its items, and the keeper goes on to the host
-- after all of them.
pub record AreServed {S : Type 0} (steps : S → Option Stamp → S → Type 0) (from to : S) (start : Start) (answered : ℕ) (kept : Kept) : Type 0 where
  pub sessions : List (List Item)
  pub count : length sessions ≡ answered
  pub each : All IsSession sessions
  pub marked : All (IsMarked start.Steady) (items_of sessions)
  pub given : List (Option Stamp)
  pub gives : GivesInOrder steps from given to
  pub taken : stamps_among given ≡ stamps_of (items_of sessions)
  pub goes : GoesBy start (items_of sessions) kept
