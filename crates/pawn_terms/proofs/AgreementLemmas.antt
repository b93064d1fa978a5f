-- The library's calendar counts days as the calendar of the rules does.
use Rattle.jiff_core.proofs.CalendarLemmas.{days_from_civil-day_count, day_count-day, day_count-next_month}
use Rattle.jiff_core.proofs.CalendarLemmas.{day_count-next_year}
use Rattle.jiff_core.proofs.SignedLemmas.{signed_arith}
use Rattle.jiff_core.specs.Calendar.{day_count, days_from_civil}
use Rattle.jiff_core.specs.Date.{epoch_day}
use Rattle.jiff_core.specs.declared.civil.date.Date.{Date}
use Rattle.pawn_terms.proofs.CalendarLemmas.{count_of-first, civil_of-year, page_date}
use Rattle.pawn_terms.specs.Calendar.{Civil, IsDayNumber, civil_of, day_number, days_of_years, days_of_months}
use Rattle.pawn_terms.specs.Calendar.{AgreesWithLibrary}
use Rattle.std.proofs.Common.{◌≡◌, ℕ, zero, suc, ◌+◌, ◌-◌, ◌≤◌, refl, ap, ◌∙◌, arith, ℤ, pos}

-- the first day of a year
year_begins : (n : ℕ) → day_count (pos (2000 + n)) 1 1 ≡ 4_382_910 + days_of_years n
unfolding days_of_years
year_begins zero = count_of-first
year_begins (suc n) =
    omega (arith, year_begins n, day_count-next_year (pos (2000 + n)) (pos (2000 + suc n)) (omega (arith, signed_arith)) (omega (arith, signed_arith)))

-- the first day of a month
month_begins : (y n : ℕ) → day_count (pos y) (n + 1) 1 ≡ day_count (pos y) 1 1 + days_of_months y n
unfolding days_of_months
month_begins y zero = omega arith
month_begins y (suc n) =
    let here : n + 1 ≡ suc n = omega arith in
    omega (arith, month_begins y n, ap (λ (m : ℕ). day_count (pos y) m 1) here, day_count-next_month (pos y) (suc n) (omega arith))

-- the number of a day from 2000 on
pub counts_alike : (c : Civil) → 2000 ≤ c.year → 1 ≤ c.month → 1 ≤ c.day → days_from_civil (pos c.year) c.month c.day ≡ pos (day_number c)
counts_alike c year month day =
    let y : 2000 + (c.year - 2000) ≡ c.year = omega (arith, year) in
    let m : (c.month - 1) + 1 ≡ c.month = omega (arith, month) in
    let first : day_count (pos c.year) 1 1 ≡ 4_382_910 + days_of_years (c.year - 2000) = rw y at (year_begins (c.year - 2000)) in
    let begins : day_count (pos c.year) c.month 1 ≡ day_count (pos c.year) 1 1 + days_of_months c.year (c.month - 1) =
    rw m at (month_begins c.year (c.month - 1)) in
    omega (
      arith,
      signed_arith,
      first,
      begins,
      day,
      day_count-day (pos c.year) c.month c.day 1 day (omega arith),
      days_from_civil-day_count (pos c.year) c.month c.day,
    )

-- the number of a date of the library from 2000 on
pub number_of-date : (d : Date) (y m n : ℕ) → d.year ≡ pos y → d.month ≡ m → d.day ≡ n → 2000 ≤ y
    → epoch_day d ≡ pos (day_number (record { year = y; month = m; day = n }))
number_of-date d y m n e f g low =
    ap (λ (z : ℤ). days_from_civil z d.month d.day) e ∙ ap (λ (k : ℕ). days_from_civil (pos y) k d.day) f ∙ ap (λ (k : ℕ). days_from_civil (pos y) m k) g
    ∙ counts_alike (record { year = y; month = m; day = n }) low (omega (arith, f, d.month_in)) (omega (arith, g, d.day_in))

-- the number of a day is that of its year, month and day
pub day_number-of : (n : ℕ) → IsDayNumber n → day_number (civil_of n) ≡ n
day_number-of n h =
    let p = page_date n h in
    let c = civil_of n in
    omega (arith, signed_arith, p.4, number_of-date p.0 c.year c.month c.day p.1 p.2 p.3 (civil_of-year n h).0)

pub agrees : AgreesWithLibrary
agrees = ((λ y m. refl), counts_alike)
