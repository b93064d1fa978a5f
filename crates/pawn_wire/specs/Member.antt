-- JSON bodies and their members.
use Rattle.pawn_wire.specs.Chain.{and_then}
use Rattle.pawn_wire.specs.Common.{Data, is_text, is_utf8, read, secret_of_text, view}
use Rattle.pawn_wire.specs.Limits.{most_numeral}
use Rattle.pawn_wire.specs.Named.{day_said}
use Rattle.pawn_wire.specs.Types.{BadBody, Memory, WireFault}
use Rattle.serde_json.specs.Find.{as_bool, as_number, as_str, as_u64, get}
use Rattle.serde_json.specs.declared.value.Value.{Value}
use Rattle.std.specs.Prelude.{◌≡◌, ℕ, ◌⊎◌, List, Bool, ◌&&◌, nat_le, if◌then◌else◌, Option, Some, None, option_and_then}
use Rattle.std.specs.Prelude.{Result, MatchResult}

-- the JSON value that the bytes encode
abbrev pub json_of : List ℕ → Option Data
json_of bytes = if is_utf8 bytes then read bytes else None

-- the answer is that value, or that the bytes are not JSON, or that memory ran out
abbrev pub JsonOf : List ℕ → Result Value WireFault → Type 0
JsonOf bytes r =
    MatchResult r (λ v. json_of bytes ≡ Some (view v)) (λ e. (e ≡ Memory) ⊎ ((e ≡ BadBody) × (json_of bytes ≡ None)))

-- a number, if it is within these bounds
abbrev pub in_range : ℕ → ℕ → ℕ → Option ℕ
in_range least most n = if nat_le least n && nat_le n most then Some n else None

-- a member that is a whole number of at most 12 digits, not written as a float
abbrev pub number_at : List ℕ → Data → Option ℕ
number_at name d = option_and_then (in_range 0 most_numeral) (option_and_then as_u64 (option_and_then as_number (get name d)))

-- a member that is a text
abbrev pub string_at : List ℕ → Data → Option (List ℕ)
string_at name d = option_and_then as_str (get name d)

-- a member that is a boolean
abbrev pub flag_at : List ℕ → Data → Option Bool
flag_at name d = option_and_then as_bool (get name d)

-- a text within the limits
abbrev pub if_text : ℕ → List ℕ → Option (List ℕ)
if_text most bytes = if is_text most bytes then Some bytes else None

-- a member that is a text of 1 to `most` bytes without control characters
abbrev pub text_at : ℕ → List ℕ → Data → Option (List ℕ)
text_at most name d = and_then (string_at name d) (if_text most)

-- a member that is a key
abbrev pub key_at : List ℕ → Data → Option ℕ
key_at name d = and_then (string_at name d) secret_of_text

-- a member that is a day
abbrev pub day_at : List ℕ → Data → Option ℕ
day_at name d = and_then (string_at name d) day_said

-- the part that a body contains
abbrev pub body_said : {A : Type 0} → (Data → Option A) → List ℕ → Option A
body_said part body = and_then (json_of body) part
