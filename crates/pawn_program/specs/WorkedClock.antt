-- Worked examples of the clock's days.
use Rattle.pawn_program.specs.Clock.{clock_day, day_of}
use Rattle.pawn_terms.specs.Worked.{date}
use Rattle.std.specs.Prelude.{◌≡◌, ℕ, ◌+◌, ◌*◌, Some, None}

-- this many seconds after the beginning of a day
abbrev pub seconds_at : ℕ → ℕ → ℕ
seconds_at day second = day * 86400 + second

-- A day lasts from its first second to its last. Requests have days from 2000-01-01 to 2199-12-31, and no day if the
-- clock can't be read.
abbrev pub WorkedClockDays : Type 0
WorkedClockDays =
    (clock_day 0 ≡ None)
    × (clock_day 946684799 ≡ None)
    × (clock_day 946684800 ≡ Some (date 2000 1 1))
    × (clock_day (seconds_at (date 2024 2 28) 86399) ≡ Some (date 2024 2 28))
    × (clock_day (seconds_at (date 2024 2 28) 86400) ≡ Some (date 2024 2 29))
    × (clock_day (seconds_at (date 2024 2 29) 86399) ≡ Some (date 2024 2 29))
    × (clock_day (seconds_at (date 2024 2 29) 86400) ≡ Some (date 2024 3 1))
    × (clock_day (seconds_at (date 2199 12 31) 86399) ≡ Some (date 2199 12 31))
    × (clock_day (seconds_at (date 2199 12 31) 86400) ≡ None)
    × (day_of None ≡ None)
