-- The heads of requests, and what they determine.
use Rattle.httparse.specs.Grammar.{HasNoRequest, MayBecomeRequest, ReadsRequest, RequestHead, print_request}
use Rattle.pawn_wire.specs.Common.{RequestOverflows, first_of, list_any, name_and_value, str_eq_ignore_ascii_case}
use Rattle.pawn_wire.specs.Fields.{Pair, values_of}
use Rattle.pawn_wire.specs.Limits.{most_head, most_fields, most_body}
use Rattle.pawn_wire.specs.Numeral.{decimal_of}
use Rattle.pawn_wire.specs.Types.{HeadFacts, HeadFault}
use Rattle.pawn_wire.specs.declared.head.HeadRead.{HeadRead}
use Rattle.std.specs.Prelude.{◌≡◌, ℕ, ◌<◌, ◌≤◌, ◌⊎◌, ◌||◌, ◌==◌, nat_lt, Bool, List, [], ◌∷◌, ◌++◌, length, map, codes}
use Rattle.std.specs.Prelude.{Option, Some, None, is_none, unwrap_or, Result, Ok, Err}

-- the names and values of a head
abbrev pub fields_of : RequestHead → List Pair
fields_of h = map name_and_value h.fields

-- the stream is this head, within the limits, followed by `rest`
abbrev pub ReadsHead : List ℕ → RequestHead → List ℕ → Type 0
ReadsHead stream h rest =
    ReadsRequest stream h rest × (length h.fields ≤ most_fields) × (length (print_request h) ≤ most_head)

-- no head begins the stream, whatever bytes follow
abbrev pub NeverHasHead : List ℕ → Type 0
NeverHasHead stream = (more : List ℕ) (h : RequestHead) (rest : List ℕ) → ReadsHead (stream ++ more) h rest → ⊥

-- no valid head can begin the stream: it would have too many fields, or 8,192 bytes have arrived and no head has ended
abbrev pub IsBadHead : List ℕ → Type 0
IsBadHead stream = RequestOverflows most_fields stream ⊎ ((most_head ≤ length stream) × NeverHasHead stream)

-- the length of the body according to the values of `Content-Length`: 1 to 19 digits; 0 if there is no such field
abbrev pub length_said : List (List ℕ) → Option ℕ
length_said [] = Some 0
length_said (v ∷ []) = decimal_of v
length_said (v ∷ w ∷ vs) = None

-- the length of the body according to the fields
abbrev pub length_by : List Pair → Option ℕ
length_by fields = length_said (values_of (codes "content-length") fields)

-- the faults of a head's fields, in the order in which they are checked
abbrev pub field_faults : List Pair → List (Bool × HeadFault)
field_faults fields =
    (nat_lt 0 (length (values_of (codes "transfer-encoding") fields)), HeadFault.Transfer)
    ∷ (is_none (length_by fields), HeadFault.BadLength)
    ∷ (nat_lt most_body (unwrap_or (length_by fields) 0), HeadFault.BodyTooLong)
    ∷ []

-- the length of the body, or the first fault of the fields
abbrev pub body_length : List Pair → Result ℕ HeadFault
body_length fields = first_of (field_faults fields) (Ok (unwrap_or (length_by fields) 0))

-- the connection closes after the reply
abbrev pub closes_by : ℕ → List Pair → Bool
closes_by minor fields =
    (minor == 0) || list_any (λ v. str_eq_ignore_ascii_case v (codes "close")) (values_of (codes "connection") fields)

-- the facts are those of the head
pub record IsHead (h : RequestHead) (f : HeadFacts) : Type 0 where
  pub len : f.len ≡ length (print_request h)
  pub body : body_length (fields_of h) ≡ Ok f.body
  pub closes : f.closes ≡ closes_by h.minor (fields_of h)

-- P holds of the facts, if the head is whole
abbrev pub IfWhole : HeadRead → (HeadFacts → Type 0) → Type 0
IfWhole (HeadRead.Whole f) P = P f
IfWhole HeadRead.Partial P = Unit {0}
IfWhole (HeadRead.Fault e) P = Unit {0}

-- what the bytes begin with: a whole head with these facts, one that is not complete yet, or a fault
abbrev pub IsHeadRead : List ℕ → HeadRead → Type 0
IsHeadRead stream (HeadRead.Whole f) = (h : RequestHead) × (rest : List ℕ) × ReadsHead stream h rest × IsHead h f
IsHeadRead stream HeadRead.Partial = (length stream < most_head) × HasNoRequest stream × MayBecomeRequest stream
IsHeadRead stream (HeadRead.Fault e) =
    (IsBadHead stream × (e ≡ HeadFault.BadHead))
    ⊎ ((h : RequestHead) × (rest : List ℕ) × ReadsHead stream h rest × (body_length (fields_of h) ≡ Err e))
