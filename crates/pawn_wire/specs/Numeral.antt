-- Numbers in the fields of a head.
use Rattle.pawn_wire.specs.Common.{digits_value, is_ascii_digit, list_all}
use Rattle.pawn_wire.specs.Limits.{most_digits}
use Rattle.std.specs.Prelude.{ℕ, List, length, Bool, ◌&&◌, nat_lt, nat_le, Option, Some, None, if◌then◌else◌}

-- 1 to 19 digits
abbrev pub is_short_numeral : List ℕ → Bool
is_short_numeral v = nat_lt 0 (length v) && nat_le (length v) most_digits && list_all is_ascii_digit v

-- the number that a text writes, if it is 1 to 19 digits
abbrev pub decimal_of : List ℕ → Option ℕ
decimal_of v = if is_short_numeral v then Some (digits_value 10 v) else None
