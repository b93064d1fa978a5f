-- The limits of days and terms. Days are counted from 1970-01-01.
use Rattle.std.specs.Prelude.{ℕ}

-- the first day: 2000-01-01
abbrev pub first_day : ℕ
first_day = 10957

-- 2199-12-31, the last day that a request may name
abbrev pub last_request_day : ℕ
last_request_day = 84005

-- the last day: 2299-12-31
abbrev pub final_day : ℕ
final_day = 120529

-- the highest rate of interest: two per cent a day, in millionths
abbrev pub most_rate : ℕ
most_rate = 20000

-- the highest charge for safe keeping: ten pence a day, in millionths of a penny
abbrev pub most_keep : ℕ
most_keep = 10000000
