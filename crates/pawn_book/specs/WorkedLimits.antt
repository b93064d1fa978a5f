-- The limits of books as numbers: those of the rules and those of the code.
use Rattle.pawn_book.specs.Limits.{most_bookings, most_name_bytes, most_receipts, most_rows, most_terms, most_pledges}
use Rattle.pawn_book.specs.declared.limits.TheConstants.{MOST_BOOKINGS, MOST_NAME_BYTES, MOST_RECEIPTS, MOST_ROWS}
use Rattle.pawn_book.specs.declared.limits.TheConstants.{MOST_TERMS, MOST_PLEDGES}
use Rattle.std.specs.Prelude.{◌≡◌}

-- each limit by its definition, and by the constant that the code compares with
abbrev pub WorkedBookLimits : Type 0
WorkedBookLimits =
    (most_bookings ≡ 1000) × (MOST_BOOKINGS ≡ 1000)
    × (most_name_bytes ≡ 60) × (MOST_NAME_BYTES ≡ 60)
    × (most_receipts ≡ 32) × (MOST_RECEIPTS ≡ 32)
    × (most_rows ≡ 10000000) × (MOST_ROWS ≡ 10000000)
    × (most_terms ≡ 99) × (MOST_TERMS ≡ 99)
    × (most_pledges ≡ 1000000) × (MOST_PLEDGES ≡ 1000000)
