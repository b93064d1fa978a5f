-- The limits of days and terms as numbers: those of the rules and those of the code.
use Rattle.pawn_terms.specs.Limits.{first_day, last_request_day, final_day, most_rate, most_keep}
use Rattle.pawn_terms.specs.declared.limits.TheConstants.{FIRST_DAY, LAST_REQUEST_DAY, FINAL_DAY, MOST_RATE, MOST_KEEP}
use Rattle.std.specs.Prelude.{◌≡◌}

-- each limit by its definition, and by the constant that the code compares with
abbrev pub WorkedTermLimits : Type 0
WorkedTermLimits =
    (first_day ≡ 10957) × (FIRST_DAY ≡ 10957)
    × (last_request_day ≡ 84005) × (LAST_REQUEST_DAY ≡ 84005)
    × (final_day ≡ 120529) × (FINAL_DAY ≡ 120529)
    × (most_rate ≡ 20000) × (MOST_RATE ≡ 20000)
    × (most_keep ≡ 10000000) × (MOST_KEEP ≡ 10000000)
