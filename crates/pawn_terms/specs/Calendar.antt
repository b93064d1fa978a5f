-- The calendar: a day is a number, and its year, month and day are found by counting day by day from 2000-01-01.
pub use Rattle.pawn_terms.specs.Limits.{first_day, last_request_day, final_day}
use Rattle.jiff_core.specs.Calendar.{days_in_month, days_from_civil}
use Rattle.std.specs.Int.{IsInRange}
use Rattle.std.specs.Prelude.{◌≡◌, ℕ, zero, suc, ◌+◌, ◌-◌, ◌≤◌, ◌<◌, ◌/◌, ◌%◌, ◌==◌, nat_lt, nat_le, min, max, Bool}
use Rattle.std.specs.Prelude.{not, ◌&&◌, ◌||◌, if◌then◌else◌, List, [], ◌∷◌, Option, Some, None, pos}

-- a day as a year, a month and a day of the month
pub record Civil : Type 0 where
  pub year : ℕ
  pub month : ℕ
  pub day : ℕ

-- a year that is divisible by 4 is a leap year, unless it is divisible by 100 and not by 400
abbrev pub is_leap : ℕ → Bool
is_leap y = (y % 4 == 0) && (not (y % 100 == 0) || (y % 400 == 0))

-- the number of days in a year
abbrev pub year_length : ℕ → ℕ
year_length y = if is_leap y then 366 else 365

-- the number of days in month m of year y
abbrev pub month_length : ℕ → ℕ → ℕ
month_length y m =
    if m == 2 then (if is_leap y then 29 else 28)
    else if (m == 4) || (m == 6) || (m == 9) || (m == 11) then 30
    else 31

-- the next day
abbrev pub next_day : Civil → Civil
next_day c =
    if nat_lt c.day (month_length c.year c.month) then record { year = c.year; month = c.month; day = c.day + 1 }
    else if nat_lt c.month 12 then record { year = c.year; month = c.month + 1; day = 1 }
    else record { year = c.year + 1; month = 1; day = 1 }

-- the day n days after 2000-01-01
unfoldable pub civil_after : ℕ → Civil
civil_after zero = record { year = 2000; month = 1; day = 1 }
civil_after (suc n) = next_day (civil_after n)

-- the number of a day from 2000-01-01 to 2299-12-31
abbrev pub IsDayNumber : ℕ → Type 0
IsDayNumber n = (first_day ≤ n) × (n ≤ final_day)

-- the year, month and day of a day number
abbrev pub civil_of : ℕ → Civil
civil_of n = civil_after (n - first_day)

-- the same day six months later, or the last day of that month if it is shorter
abbrev pub six_months_later : Civil → Civil
six_months_later c =
    if nat_le c.month 6
    then record { year = c.year; month = c.month + 6; day = min c.day (month_length c.year (c.month + 6)) }
    else record { year = c.year + 1; month = c.month - 6; day = min c.day (month_length (c.year + 1) (c.month - 6)) }

-- the days of the first n years from 2000 on
unfoldable pub days_of_years : ℕ → ℕ
days_of_years zero = 0
days_of_years (suc n) = days_of_years n + year_length (2000 + n)

-- the days of the first n months of a year
unfoldable pub days_of_months : ℕ → ℕ → ℕ
days_of_months y zero = 0
days_of_months y (suc n) = days_of_months y n + month_length y (suc n)

-- the number of a day from 2000 on, counted from 1970-01-01
abbrev pub day_number : Civil → ℕ
day_number c = first_day + days_of_years (c.year - 2000) + days_of_months c.year (c.month - 1) + (c.day - 1)

-- the day number six calendar months later
abbrev pub six_months : ℕ → ℕ
six_months n = day_number (six_months_later (civil_of n))

-- the later of a day and another day; the day itself if there is no other
abbrev pub later_of : ℕ → Option ℕ → ℕ
later_of day None = day
later_of day (Some other) = max day other

-- the end of a period: the latest of six months after the day taken, the agreed end, and the end of the last extension
abbrev pub period_end : ℕ → Option ℕ → Option ℕ → ℕ
period_end taken agreed extended = later_of (later_of (six_months taken) agreed) extended

-- the calendar has the day, and a request may name it
abbrev pub IsRequestCivil : Civil → Type 0
IsRequestCivil c =
    IsInRange 2000 2199 c.year × IsInRange 1 12 c.month × IsInRange 1 (month_length c.year c.month) c.day

-- the number of a day that a request may name
abbrev pub IsRequestDay : ℕ → Type 0
IsRequestDay n = (first_day ≤ n) × (n ≤ last_request_day)

-- the ASCII code of the last decimal digit of a number
abbrev pub digit : ℕ → ℕ
digit n = 48 + n % 10

-- four digits are enough for the year, and two for the month and the day
abbrev pub IsWritable : Civil → Type 0
IsWritable c = (c.year < 10000) × (c.month < 100) × (c.day < 100)

-- the text of a day, such as `2024-01-31`
abbrev pub civil_text : Civil → List ℕ
civil_text c =
    digit (c.year / 1000) ∷ digit (c.year / 100) ∷ digit (c.year / 10) ∷ digit c.year ∷ 45
    ∷ digit (c.month / 10) ∷ digit c.month ∷ 45 ∷ digit (c.day / 10) ∷ digit c.day ∷ []

-- the text of a day number
abbrev pub day_text : ℕ → List ℕ
day_text n = civil_text (civil_of n)

-- the calendar of `jiff_core` agrees with this one: months have the same lengths, and days from 2000 on the same
-- numbers
abbrev pub AgreesWithLibrary : Type 0
AgreesWithLibrary =
    ((y m : ℕ) → days_in_month (pos y) m ≡ month_length y m)
    × ((c : Civil) → 2000 ≤ c.year → 1 ≤ c.month → 1 ≤ c.day → days_from_civil (pos c.year) c.month c.day ≡ pos (day_number c))
