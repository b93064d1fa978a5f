-- The limits of a pledge's record as numbers: those of the rules and those of the code.
use Rattle.pawn_pledge.specs.Limits.{most_number, most_reference_bytes, most_article_bytes, small_credit, grace_days}
use Rattle.pawn_pledge.specs.Limits.{most_secrets, most_extensions, last_window}
use Rattle.pawn_pledge.specs.declared.limits.TheConstants.{MOST_NUMBER, MOST_REFERENCE_BYTES, MOST_ARTICLE_BYTES}
use Rattle.pawn_pledge.specs.declared.limits.TheConstants.{SMALL_CREDIT, GRACE_DAYS, MOST_SECRETS, MOST_EXTENSIONS}
use Rattle.pawn_pledge.specs.declared.limits.TheConstants.{LAST_WINDOW}
use Rattle.std.specs.Prelude.{◌≡◌}

-- each limit by its definition, and by the constant that the code compares with
abbrev pub WorkedPledgeLimits : Type 0
WorkedPledgeLimits =
    (most_number ≡ 999999999) × (MOST_NUMBER ≡ 999999999)
    × (most_reference_bytes ≡ 40) × (MOST_REFERENCE_BYTES ≡ 40)
    × (most_article_bytes ≡ 80) × (MOST_ARTICLE_BYTES ≡ 80)
    × (small_credit ≡ 7500) × (SMALL_CREDIT ≡ 7500)
    × (grace_days ≡ 5) × (GRACE_DAYS ≡ 5)
    × (most_secrets ≡ 101) × (MOST_SECRETS ≡ 101)
    × (most_extensions ≡ 99) × (MOST_EXTENSIONS ≡ 99)
    × (last_window ≡ 15) × (LAST_WINDOW ≡ 15)
