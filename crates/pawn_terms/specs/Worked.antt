-- Worked examples of days, ends of periods and terms.
use Rattle.pawn_terms.specs.Calendar.{day_number, day_text, six_months, period_end, first_day, last_request_day}
use Rattle.pawn_terms.specs.Calendar.{final_day}
use Rattle.pawn_terms.specs.Terms.{rates_of}
use Rattle.pawn_terms.specs.TermsFault.{terms_answer}
use Rattle.pawn_terms.specs.declared.terms.TermsFault.TheVariants.{RateTooHigh, KeepTooHigh, KeepingRate}
use Rattle.std.specs.Prelude.{◌≡◌, ℕ, ◌+◌, Some, None, Ok, Err, codes}

-- a day by its year, month and day of the month
abbrev pub date : ℕ → ℕ → ℕ → ℕ
date year month day = day_number (record { year = year; month = month; day = day })

-- days are counted from 1970-01-01
abbrev pub WorkedNumbers : Type 0
WorkedNumbers =
    (date 2000 1 1 ≡ first_day)
    × (date 2024 1 31 ≡ 19753)
    × (date 2199 12 31 ≡ last_request_day)
    × (date 2299 12 31 ≡ final_day)

-- February has 28 days, or 29 in a leap year; 2000 is a leap year and 2100 is not
abbrev pub WorkedTexts : Type 0
WorkedTexts =
    (day_text (date 2024 1 31) ≡ codes "2024-01-31")
    × (day_text (date 2000 2 28 + 1) ≡ codes "2000-02-29")
    × (day_text (date 2023 2 28 + 1) ≡ codes "2023-03-01")
    × (day_text (date 2024 2 28 + 1) ≡ codes "2024-02-29")
    × (day_text (date 2100 2 28 + 1) ≡ codes "2100-03-01")
    × (day_text (date 2024 12 31 + 1) ≡ codes "2025-01-01")

-- the same day six months later, or the last day of that month if the month is shorter
abbrev pub WorkedSixMonths : Type 0
WorkedSixMonths =
    (six_months (date 2024 1 31) ≡ date 2024 7 31)
    × (six_months (date 2024 8 31) ≡ date 2025 2 28)
    × (six_months (date 2023 8 30) ≡ date 2024 2 29)
    × (six_months (date 2024 3 31) ≡ date 2024 9 30)
    × (six_months (date 2199 12 31) ≡ date 2200 6 30)

-- an agreed end counts if it is after the six months, and the end of an extension if it is after both
abbrev pub WorkedEnds : Type 0
WorkedEnds =
    (period_end (date 2024 1 31) None None ≡ date 2024 7 31)
    × (period_end (date 2024 1 31) (Some (date 2024 7 30)) None ≡ date 2024 7 31)
    × (period_end (date 2024 1 31) (Some (date 2024 8 1)) None ≡ date 2024 8 1)
    × (period_end (date 2024 1 31) (Some (date 2024 8 1)) (Some (date 2024 9 30)) ≡ date 2024 9 30)

-- each number at its limit and above it, and the first fault if there are several
abbrev pub WorkedTerms : Type 0
WorkedTerms =
    (terms_answer (rates_of 20000 10000000 10000000) ≡ Ok (rates_of 20000 10000000 10000000))
    × (terms_answer (rates_of 20001 0 0) ≡ Err RateTooHigh)
    × (terms_answer (rates_of 0 10000001 0) ≡ Err KeepTooHigh)
    × (terms_answer (rates_of 0 5 10000001) ≡ Err KeepTooHigh)
    × (terms_answer (rates_of 0 5 5) ≡ Ok (rates_of 0 5 5))
    × (terms_answer (rates_of 0 5 6) ≡ Err KeepingRate)
    × (terms_answer (rates_of 20001 10000001 10000002) ≡ Err RateTooHigh)
    × (terms_answer (rates_of 20000 10000001 10000002) ≡ Err KeepTooHigh)
