-- The limits of a session.
use Rattle.std.specs.Prelude.{ℕ}

-- the most requests that a session answers
abbrev pub most_requests : ℕ
most_requests = 1000

-- the most reads that a session makes
abbrev pub most_reads : ℕ
most_reads = 100000

-- the most bytes of one request, head and body together
abbrev pub most_request_bytes : ℕ
most_request_bytes = 1056768
