-- The sum owed, in whole pence.
use Rattle.pawn_debt.specs.Due.{Due}
use Rattle.pawn_debt.specs.Limits.{penny}
use Rattle.pawn_debt.specs.declared.owing.Owing.{Owing}
use Rattle.std.specs.Prelude.{ℕ, ◌+◌, ◌/◌}

-- charges are rounded down to whole pence
abbrev pub whole_pence : ℕ → ℕ
whole_pence millionths = millionths / penny

-- principal and charges together
abbrev pub total_of : Due → ℕ
total_of owed = owed.principal + whole_pence owed.millionths

-- the sum owed in whole pence, as replies show it
abbrev pub owing_of : Due → Owing
owing_of owed = record { principal = owed.principal; charges = whole_pence owed.millionths; total = total_of owed }
