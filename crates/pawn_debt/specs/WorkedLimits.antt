-- The limits of debts as numbers: those of the rules and those of the code.
use Rattle.pawn_debt.specs.Limits.{most_pence, most_entries, penny, most_millionths, most_a_day}
use Rattle.pawn_debt.specs.declared.limits.TheConstants.{MOST_PENCE, MOST_ENTRIES, PENNY, MOST_MILLIONTHS}
use Rattle.std.specs.Prelude.{◌≡◌}

-- each limit by its definition, and by the constant that the code compares with
abbrev pub WorkedDebtLimits : Type 0
WorkedDebtLimits =
    (most_pence ≡ 100000000) × (MOST_PENCE ≡ 100000000)
    × (most_entries ≡ 9999) × (MOST_ENTRIES ≡ 9999)
    × (penny ≡ 1000000) × (PENNY ≡ 1000000)
    × (most_millionths ≡ 1000000000000000000) × (MOST_MILLIONTHS ≡ 1000000000000000000)
    × (most_a_day ≡ 2000010000000)
