-- The limits of debts.
use Rattle.std.specs.Prelude.{ℕ}

-- the largest sum: a million pounds
abbrev pub most_pence : ℕ
most_pence = 100000000

-- the most entries of a debt
abbrev pub most_entries : ℕ
most_entries = 9999

-- a penny, in millionths of it
abbrev pub penny : ℕ
penny = 1000000

-- the upper bound of a day's charges, in millionths of a penny: interest of 20,000 millionths on the largest principal,
-- and ten pence
abbrev pub most_a_day : ℕ
most_a_day = 2000010000000

-- the upper bound of the charges on a debt, in millionths of a penny
abbrev pub most_millionths : ℕ
most_millionths = 1000000000000000000
