-- The limits of a request.
use Rattle.pawn_wire.specs.declared.limits.TheConstants.{MOST_BODY, MOST_DIGITS, MOST_FIELDS, MOST_HEAD, MOST_NUMERAL}
use Rattle.std.specs.Prelude.{ℕ}

-- the most bytes in a head, including the empty line at its end
abbrev pub most_head : ℕ
most_head = MOST_HEAD

-- the most fields in a head
abbrev pub most_fields : ℕ
most_fields = MOST_FIELDS

-- the most bytes in a body
abbrev pub most_body : ℕ
most_body = MOST_BODY

-- the most digits in a `Content-Length`
abbrev pub most_digits : ℕ
most_digits = MOST_DIGITS

-- the largest number in a body; it has 12 digits
abbrev pub most_numeral : ℕ
most_numeral = MOST_NUMERAL
