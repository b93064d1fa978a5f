-- The limits of a session as numbers, in the definitions and in the code.
use Rattle.pawn_host.specs.Limits.{most_requests, most_reads, most_request_bytes}
use Rattle.pawn_host.specs.declared.limits.TheConstants.{MOST_REQUESTS, MOST_READS}
use Rattle.std.specs.Prelude.{◌≡◌}

-- each limit by its definition, and by the constant that the code compares with
abbrev pub WorkedSessionLimits : Type 0
WorkedSessionLimits =
    (most_requests ≡ 1000) × (MOST_REQUESTS ≡ 1000)
    × (most_reads ≡ 100000) × (MOST_READS ≡ 100000)
    × (most_request_bytes ≡ 1056768)
