-- What is asked by the target of a request.
use Rattle.pawn_wire.specs.Chain.{and_then}
use Rattle.pawn_wire.specs.Named.{number_said, day_said}
use Rattle.pawn_wire.specs.Route.{AskedFor, route_of}
use Rattle.pawn_wire.specs.Types.{Create, Endpoint, Export, Import, OnPledge, OnReceipt, BookTarget, Present, PutTerms, Show}
use Rattle.pawn_wire.specs.Types.{ShowDay, TakePledge, Target}
use Rattle.std.specs.List.{list_all}
use Rattle.std.specs.Prelude.{ℕ, nat_lt, Bool, List, codes, if◌then◌else◌, Option, Some, None, option_map}

abbrev pub is_ascii_text : List ℕ → Bool
is_ascii_text text = list_all (λ b. nat_lt b 128) text

-- the only method that a target accepts
abbrev pub method_of : Target → List ℕ
method_of Create = codes "POST"
method_of PutTerms = codes "POST"
method_of TakePledge = codes "POST"
method_of (Show number) = codes "GET"
method_of (OnPledge number action) = codes "POST"
method_of (ShowDay day) = codes "GET"
method_of Export = codes "GET"
method_of Import = codes "POST"
method_of Present = codes "GET"
method_of (OnReceipt action) = codes "POST"

-- what is asked at an endpoint; `item` is the part of the target that names the pledge or the day
abbrev pub target_said : Endpoint → Option (List ℕ) → Option Target
target_said Endpoint.Create item = Some Create
target_said Endpoint.PutTerms item = Some PutTerms
target_said Endpoint.TakePledge item = Some TakePledge
target_said Endpoint.Show item = option_map Show (and_then item number_said)
target_said (Endpoint.OnPledge action) item = option_map (λ number. OnPledge number action) (and_then item number_said)
target_said Endpoint.ShowDay item = option_map ShowDay (and_then item day_said)
target_said Endpoint.Export item = Some Export
target_said Endpoint.Import item = Some Import
target_said Endpoint.Present item = Some Present
target_said (Endpoint.OnReceipt action) item = Some (OnReceipt action)

-- the book of a target, and what is asked of it
abbrev pub target_asked : AskedFor → Option BookTarget
target_asked asked =
    and_then (and_then asked.book number_said)
    (λ book. option_map (λ target. record { book = book; target = target }) (target_said asked.endpoint asked.item))

-- what is asked by a target; a target that is not ASCII does not exist
abbrev pub target_of : List ℕ → Option BookTarget
target_of target = if is_ascii_text target then and_then (route_of target) target_asked else None
