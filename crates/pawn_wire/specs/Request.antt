-- The request that bytes encode, or their first fault.
use Rattle.csv.specs.Reading.{strip_bom}
use Rattle.httparse.specs.Grammar.{RequestHead}
use Rattle.pawn_csv.specs.Reading.{IsFirstCause, IsTextOf}
use Rattle.pawn_reply.specs.Fault.{wire_fault}
use Rattle.pawn_wire.specs.Callers.{asks_said}
use Rattle.pawn_wire.specs.Chain.{OrMemory, after, or_fault}
use Rattle.pawn_wire.specs.Common.{BookRows, Broker, CsvFault, Import, Request, first_of, Cause}
use Rattle.pawn_wire.specs.Fields.{Pair}
use Rattle.pawn_wire.specs.Head.{ReadsHead, fields_of, length_by, field_faults}
use Rattle.pawn_wire.specs.Target.{method_of, target_of}
use Rattle.pawn_wire.specs.Types.{Asks, Csv, NoRoute, Outline, WireFault, WrongMethod}
use Rattle.std.specs.Prelude.{◌≡◌, ◌≢◌, ℕ, ◌⊎◌, ◌==◌, Bool, not, List, [], ◌∷◌, ◌++◌, map, length, bytes_eq, unwrap_or}
use Rattle.std.specs.Prelude.{Result, Ok, Err}

-- the faults of a head's fields and of the body's length, in the order in which they are checked
abbrev pub framing_faults : List Pair → List ℕ → List (Bool × WireFault)
framing_faults fields body =
    map (λ row. (row.0, wire_fault row.1)) (field_faults fields)
    ++ (not (unwrap_or (length_by fields) 0 == length body), WireFault.BadLength)
    ∷ []

-- What the parts of a head and a body ask, or the first fault that applies. The framing is checked first, then the
-- target, the method, the caller and what is asked. The rows of an import are not checked.
abbrev pub outline_by : List ℕ → List ℕ → List Pair → List ℕ → Result Outline WireFault
outline_by method target fields body =
    first_of (framing_faults fields body)
    (after (or_fault NoRoute (target_of target))
    (λ asked. first_of ((not (bytes_eq (method_of asked.target) method), WrongMethod) ∷ [])
    (after (asks_said asked.target fields body)
    (λ asks. Ok (record { book = asked.book; asks = asks })))))

-- the book that a body holds as a text, with or without a byte order mark, or the text's first fault
abbrev pub HoldsRows : List ℕ → Result BookRows WireFault → Type 0
HoldsRows body (Ok rows) = IsTextOf (strip_bom body) rows
HoldsRows body (Err fault) =
    (csv : CsvFault) × (fault ≡ Csv csv) × (csv.cause ≢ Cause.Memory) × IsFirstCause (strip_bom body) csv.cause csv.row

-- the resulting request; an import has the rows that its body holds, or the fault of its text
abbrev pub IsAsked : List ℕ → ℕ → Asks → Result Request WireFault → Type 0
IsAsked body book (Asks.Whole caller) said = said ≡ Ok (record { book = book; caller = caller })
IsAsked body book (Asks.Import key import_key) said =
    (held : Result BookRows WireFault) × HoldsRows body held
    × (said ≡ after held (λ rows. Ok (record { book = book; caller = Broker key (Import import_key rows) })))

-- the request that results from an outline, or the outline's fault
abbrev pub IsOutlined : List ℕ → Result Outline WireFault → Result Request WireFault → Type 0
IsOutlined body (Ok outline) said = IsAsked body outline.book outline.asks said
IsOutlined body (Err fault) said = said ≡ Err fault

-- the request or the fault of these bytes, according to the head that they begin with; `BadHead` if they begin with
-- none
abbrev pub SaysRequest : List ℕ → Result Request WireFault → Type 0
SaysRequest bytes said =
    ((h : RequestHead) × (body : List ℕ) × ReadsHead bytes h body × IsOutlined body (outline_by h.method h.target (fields_of h) body) said)
    ⊎ (((h : RequestHead) (body : List ℕ) → ReadsHead bytes h body → ⊥) × (said ≡ Err WireFault.BadHead))

-- the answer is the request that the bytes encode, or their fault, or memory ran out
abbrev pub IsRequestRead : List ℕ → Result Request WireFault → Type 0
IsRequestRead bytes answer = OrMemory (SaysRequest bytes) answer
