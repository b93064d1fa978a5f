-- The numbers of books and pledges.
use Rattle.pawn_pledge.specs.Limits.{most_number}
use Rattle.std.specs.Prelude.{ℕ, ◌≤◌}

-- a number that a book or a pledge can have
abbrev pub IsNumber : ℕ → Type 0
IsNumber n = (1 ≤ n) × (n ≤ most_number)
