-- Numbers and days in targets and bodies.
use Rattle.pawn_wire.specs.Common.{Civil, day_number, day_text, digits_value, first_day, is_ascii_digit, last_request_day}
use Rattle.pawn_wire.specs.Common.{list_all}
use Rattle.std.specs.Prelude.{ℕ, ◌==◌, nat_lt, nat_le, List, length, take, drop, slice_index, Bool, not, ◌&&◌, bytes_eq}
use Rattle.std.specs.Prelude.{if◌then◌else◌, Option, Some, None}

-- 1 to 9 digits, the first of which is not a zero
abbrev pub is_numeral : List ℕ → Bool
is_numeral text =
    nat_lt 0 (length text) && nat_le (length text) 9 && list_all is_ascii_digit text && not (slice_index text 0 == 48)

-- the number of a book or a pledge that a text writes, from 1 to 999,999,999, in its only spelling
unfoldable pub number_said : List ℕ → Option ℕ
number_said text = if is_numeral text then Some (digits_value 10 text) else None

-- the year, month and day that the digits of a text `2024-01-31` write
abbrev pub civil_said : List ℕ → Civil
civil_said text =
    record { year = digits_value 10 (take 4 text); month = digits_value 10 (take 2 (drop 5 text)); day = digits_value 10 (take 2 (drop 8 text)) }

-- the text is the spelling of this day, and a request may name the day
abbrev pub is_text_of_day : List ℕ → ℕ → Bool
is_text_of_day text day = nat_le first_day day && nat_le day last_request_day && bytes_eq text (day_text day)

-- the day that a text such as `2024-01-31` writes, if the text is the spelling of that day
unfoldable pub day_said : List ℕ → Option ℕ
day_said text =
    if is_text_of_day text (day_number (civil_said text)) then Some (day_number (civil_said text)) else None
