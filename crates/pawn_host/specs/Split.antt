-- A stream as whole requests and a rest. It is a relation, because the grammar of heads is one.
pub use Rattle.pawn_host.specs.Limits.{most_requests}
use Rattle.pawn_host.specs.Common.{HasNoRequest, HeadFault, IsBadHead, MayBecomeRequest, ReadsHead, RequestHead}
use Rattle.pawn_host.specs.Common.{body_length, closes_by, fields_of, most_head}
use Rattle.pawn_reply.specs.declared.fault.HeadFault.TheVariants.{BadHead}
use Rattle.std.specs.Prelude.{◌≡◌, ◌≢◌, ℕ, ◌<◌, ◌≤◌, ◌⊎◌, Bool, true, false, List, [], ◌∷◌, ◌++◌, length, Ok, Err}

-- how a stream ends
pub data Ending : Type 0 where
  at_end : Ending
  cut : Ending
  closed : Ending
  faulted : HeadFault → Ending
  at_limit : Ending

-- the bytes are one whole request: a head, followed by as many bytes as the head states
pub record IsRequest (bytes : List ℕ) (closes : Bool) : Type 0 where
  pub head : RequestHead
  pub body : List ℕ
  pub reads : ReadsHead bytes head body
  pub framed : body_length (fields_of head) ≡ Ok (length body)
  pub closes_is : closes ≡ closes_by head.minor (fields_of head)

-- no whole request begins the rest
abbrev pub HasNoWhole : List ℕ → Type 0
HasNoWhole rest = (request more : List ℕ) (closes : Bool) → rest ≡ request ++ more → IsRequest request closes → ⊥

-- the rest is a prefix of a head that may still go on, if its length is ignored
abbrev pub IsCutHead : List ℕ → Type 0
IsCutHead rest = (rest ≢ []) × (length rest < most_head) × HasNoRequest rest × MayBecomeRequest rest

-- the rest is a head and a part of its body
abbrev pub IsCutBody : List ℕ → Type 0
IsCutBody rest =
    (h : RequestHead) × (body : List ℕ) × (n : ℕ)
    × ReadsHead rest h body × (body_length (fields_of h) ≡ Ok n) × (length body < n)

-- the rest is a part of a request
abbrev pub IsCut : List ℕ → Type 0
IsCut rest = IsCutHead rest ⊎ IsCutBody rest

-- no request can begin with the rest: there is no head, or the head has a fault
abbrev pub HasFault : List ℕ → HeadFault → Type 0
HasFault rest f =
    (IsBadHead rest × (f ≡ BadHead))
    ⊎ ((h : RequestHead) × (body : List ℕ) × ReadsHead rest h body × (body_length (fields_of h) ≡ Err f))

-- the stream consists of these requests, none of which closes the connection, and then the rest
abbrev pub PassesOver : List ℕ → List (List ℕ) → List ℕ → Type 0
PassesOver stream [] rest = stream ≡ rest
PassesOver stream (r ∷ rs) rest = (next : List ℕ) × (stream ≡ r ++ next) × IsRequest r false × PassesOver next rs rest

-- after n requests no further one is taken from the rest
abbrev pub StopsAt : Ending → ℕ → List ℕ → Type 0
StopsAt at_end n rest = (n < most_requests) × (rest ≡ [])
StopsAt cut n rest = (n < most_requests) × IsCut rest
StopsAt (faulted f) n rest = (n < most_requests) × HasFault rest f
StopsAt at_limit n rest = n ≡ most_requests
StopsAt closed n rest = ⊥

-- the stream begins with these requests; the last of them, and no other, closes the connection
abbrev pub ClosesAfter : List ℕ → List (List ℕ) → Type 0
ClosesAfter stream requests =
    (passed : List (List ℕ)) × (last : List ℕ) × (rest : List ℕ)
    × PassesOver stream passed (last ++ rest) × IsRequest last true
    × (length passed < most_requests) × (requests ≡ passed ++ last ∷ [])

-- the split of the stream: its requests, and how it ends
abbrev pub Splits : List ℕ → List (List ℕ) → Ending → Type 0
Splits stream requests ending =
    ((rest : List ℕ) × PassesOver stream requests rest × StopsAt ending (length requests) rest)
    ⊎ (ClosesAfter stream requests × (ending ≡ closed))

-- the split of the stream begins with these requests
abbrev pub Begins : List ℕ → List (List ℕ) → Type 0
Begins stream requests =
    ((rest : List ℕ) × PassesOver stream requests rest × (length requests ≤ most_requests)) ⊎ ClosesAfter stream requests

-- the stream begins with these requests, none of which closes the connection, and a further request follows
abbrev pub BeginsAndGoesOn : List ℕ → List (List ℕ) → Type 0
BeginsAndGoesOn stream requests =
    (next : List ℕ) × (more : List ℕ) × (closes : Bool)
    × PassesOver stream requests (next ++ more) × IsRequest next closes × (length requests < most_requests)

-- the stream begins with these requests, none of which closes the connection, and more may be taken
abbrev pub IsUnderWay : List ℕ → List (List ℕ) → Type 0
IsUnderWay stream requests = (rest : List ℕ) × PassesOver stream requests rest × (length requests < most_requests)

-- more bytes are wanted: the bytes so far are some requests, after which more may be taken, and a rest that does not
-- begin with a whole request
abbrev pub IsWanting : List ℕ → Type 0
IsWanting come = (requests : List (List ℕ)) × (rest : List ℕ) × PassesOver come requests rest × (length requests < most_requests) × HasNoWhole rest

-- each read returned a piece, and was made while more bytes were wanted
abbrev pub AreWanted : List ℕ → List (List ℕ) → Type 0
AreWanted come [] = Unit {0}
AreWanted come (piece ∷ pieces) = IsWanting come × AreWanted (come ++ piece) pieces
