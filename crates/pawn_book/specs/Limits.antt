-- The limits of books.
use Rattle.pawn_pledge.specs.declared.receipt.Receipt.{Receipt}
use Rattle.std.specs.Prelude.{ℕ, ◌≤◌, List, length}

-- the highest capacity of a book: the most bookings that it confirms in one window of a day
abbrev pub most_bookings : ℕ
most_bookings = 1000

-- a capacity that a book can have
abbrev pub IsCapacity : ℕ → Type 0
IsCapacity n = (1 ≤ n) × (n ≤ most_bookings)

-- the most bytes of a book's name
abbrev pub most_name_bytes : ℕ
most_name_bytes = 60

-- the most receipts that may be presented at once
abbrev pub most_receipts : ℕ
most_receipts = 32

-- as many receipts as may be presented at once: 1 to 32
abbrev pub AreFew : List Receipt → Type 0
AreFew receipts = (1 ≤ length receipts) × (length receipts ≤ most_receipts)

-- the highest limit on rows that a host may have
abbrev pub most_rows : ℕ
most_rows = 10000000

-- the most versions of terms of a book
abbrev pub most_terms : ℕ
most_terms = 99

-- the most pledges of a book
abbrev pub most_pledges : ℕ
most_pledges = 1000000
