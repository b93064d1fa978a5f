-- The targets of the service, and how one is matched.
use Rattle.matchit.specs.Order.{placed}
use Rattle.matchit.specs.Route.{Scan, parse_route}
use Rattle.matchit.specs.Router.{RouteOf, route_from}
use Rattle.matchit.specs.Rows.{RowsOf}
use Rattle.matchit.specs.Seek.{first}
use Rattle.matchit.specs.declared.error.InsertError.{InsertError}
use Rattle.pawn_wire.specs.Common.{Bor, walk}
use Rattle.pawn_wire.specs.Types.{BearerAction, BrokerAction, Endpoint}
use Rattle.std.specs.Prelude.{ℕ, List, [], ◌∷◌, codes, map, Option, option_map, slice_get, Result, Ok, Err}

-- the targets, each with its endpoint
abbrev pub table : List (List ℕ × Endpoint)
table =
    (codes "/books/{b}", Endpoint.Create)
    ∷ (codes "/books/{b}/terms", Endpoint.PutTerms)
    ∷ (codes "/books/{b}/pledges", Endpoint.TakePledge)
    ∷ (codes "/books/{b}/pledges/{n}", Endpoint.Show)
    ∷ (codes "/books/{b}/pledges/{n}/draw", Endpoint.OnPledge BrokerAction.Draw)
    ∷ (codes "/books/{b}/pledges/{n}/repay", Endpoint.OnPledge BrokerAction.Repay)
    ∷ (codes "/books/{b}/pledges/{n}/hold", Endpoint.OnPledge BrokerAction.Hold)
    ∷ (codes "/books/{b}/pledges/{n}/release", Endpoint.OnPledge BrokerAction.Release)
    ∷ (codes "/books/{b}/pledges/{n}/declare", Endpoint.OnPledge BrokerAction.Declare)
    ∷ (codes "/books/{b}/pledges/{n}/decide", Endpoint.OnPledge BrokerAction.Decide)
    ∷ (codes "/books/{b}/pledges/{n}/sell", Endpoint.OnPledge BrokerAction.Sell)
    ∷ (codes "/books/{b}/pledges/{n}/extend", Endpoint.OnPledge BrokerAction.Extend)
    ∷ (codes "/books/{b}/days/{d}", Endpoint.ShowDay)
    ∷ (codes "/books/{b}/export", Endpoint.Export)
    ∷ (codes "/books/{b}/import", Endpoint.Import)
    ∷ (codes "/books/{b}/held", Endpoint.Present)
    ∷ (codes "/books/{b}/held/repay", Endpoint.OnReceipt BearerAction.Repay)
    ∷ (codes "/books/{b}/held/ask", Endpoint.OnReceipt BearerAction.Ask)
    ∷ (codes "/books/{b}/held/cancel", Endpoint.OnReceipt BearerAction.Cancel)
    ∷ (codes "/books/{b}/held/redeem", Endpoint.OnReceipt BearerAction.Redeem)
    ∷ []

-- a router's rows, as `matchit` orders them
abbrev pub Rows : Type 0
Rows = RowsOf (RouteOf Endpoint)

-- the rows with one more route, if its text could be parsed
abbrev pub with_route : Result Scan InsertError → Endpoint → Rows → Rows
with_route (Ok s) endpoint rows = placed (s.pattern, route_from s endpoint) rows
with_route (Err x) endpoint rows = rows

-- the rows with the routes of a list, one after another
abbrev pub with_routes : List (List ℕ × Endpoint) → Rows → Rows
with_routes [] rows = rows
with_routes (r ∷ rest) rows = with_routes rest (with_route (parse_route r.0) r.1 rows)

-- the rows of the table
unfoldable pub table_rows : Rows
table_rows = with_routes table []

-- the texts in the target that match the names in braces, in order
abbrev pub captures : RouteOf Endpoint → List ℕ → List (List ℕ)
captures r target = map (λ p. p.1) (walk r.pattern r.text target r.names 0 0)

-- an endpoint, and the texts that match the first two names in braces
pub record AskedFor : Type 0 where
  pub endpoint : Endpoint
  pub book : Option (List ℕ)
  pub item : Option (List ℕ)

-- what is asked at a target
abbrev pub route_of : List ℕ → Option AskedFor
route_of target =
    option_map
    (λ r. record { endpoint = r.value; book = slice_get (captures r target) 0; item = slice_get (captures r target) 1 })
    (first table_rows target)

-- an entry of the program's table
abbrev pub plain : Bor (List ℕ) × Endpoint → List ℕ × Endpoint
plain r = (r.0.now, r.1)
