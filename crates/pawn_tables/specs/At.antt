-- The tests by which queries choose rows.
use Rattle.pawn_tables.specs.Common.{list_all, Compare, Eq, Ge, Gt, Le, Lt, Binary, binary, is_true, Row, column, Value}
use Rattle.pawn_tables.specs.Rows.{number}
use Rattle.std.specs.Prelude.{ℕ, Bool, [], ◌∷◌}

-- SQL's =
abbrev pub is_at : Value → Value → Bool
is_at v w = is_true (binary (Compare Eq Binary) v w)

-- SQL's >
abbrev pub is_above : Value → Value → Bool
is_above v w = is_true (binary (Compare Gt Binary) v w)

-- SQL's >=
abbrev pub is_from : Value → Value → Bool
is_from v w = is_true (binary (Compare Ge Binary) v w)

-- SQL's <=
abbrev pub is_upto : Value → Value → Bool
is_upto v w = is_true (binary (Compare Le Binary) v w)

-- SQL's <
abbrev pub is_below : Value → Value → Bool
is_below v w = is_true (binary (Compare Lt Binary) v w)

-- whether a row belongs to book b: its first column is b
abbrev pub at_book : ℕ → Row → Bool
at_book b v = list_all (λ (x : Bool). x) (is_at (column v 0) (number b) ∷ [])

-- whether a row belongs to pledge n of book b: its first two columns are b and n
abbrev pub at_pledge : ℕ → ℕ → Row → Bool
at_pledge b n v = list_all (λ (x : Bool). x) (is_at (column v 0) (number b) ∷ is_at (column v 1) (number n) ∷ [])
