-- The fields of a head, each as its name and its value.
use Rattle.pawn_wire.specs.Common.{filter_map, header_bytes, str_eq_ignore_ascii_case}
use Rattle.pawn_wire.specs.Types.{Fields, Found, Missing, One, Several}
use Rattle.std.specs.Prelude.{◌≡◌, ℕ, ◌≤◌, List, [], ◌∷◌, length, map, Option, Some, None, if◌then◌else◌}

-- a name and a value
abbrev pub Pair : Type 0
Pair = List ℕ × List ℕ

-- the names and the values of the fields
abbrev pub pairs_of : Fields → List Pair
pairs_of f = map (header_bytes f.bytes.now) f.spans.now

-- the value of a field, if its name is this one
abbrev pub value_under : List ℕ → Pair → Option (List ℕ)
value_under name field = if str_eq_ignore_ascii_case field.0 name then Some field.1 else None

-- the values of the fields with this name, in order; the case of letters is ignored
abbrev pub values_of : List ℕ → List Pair → List (List ℕ)
values_of name fields = filter_map (value_under name) fields

-- the result of a search whose matching fields have these values
abbrev pub IsFound : List (List ℕ) → Found → Type 0
IsFound values Missing = values ≡ []
IsFound values (One value) = values ≡ value.now ∷ []
IsFound values Several = 2 ≤ length values
