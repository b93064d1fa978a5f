-- The HTTP statuses of refusals and faults, by their codes.
use Rattle.std.specs.Prelude.{ℕ, List, [], ◌∷◌, ◌&&◌, nat_le, if◌then◌else◌}

-- a status for the codes from first to last
pub record Row : Type 0 where
  pub first : ℕ
  pub last : ℕ
  pub status : ℕ

-- the table of statuses: 400 (bad request), 403 (forbidden), 404 (not found) and 503 (unavailable)
abbrev pub statuses : List Row
statuses =
    record { first = 101; last = 104; status = 400 }
    ∷ record { first = 201; last = 201; status = 400 }
    ∷ record { first = 313; last = 313; status = 400 }
    ∷ record { first = 601; last = 607; status = 400 }
    ∷ record { first = 701; last = 705; status = 400 }
    ∷ record { first = 707; last = 712; status = 400 }
    ∷ record { first = 410; last = 410; status = 403 }
    ∷ record { first = 401; last = 403; status = 404 }
    ∷ record { first = 706; last = 706; status = 404 }
    ∷ record { first = 490; last = 492; status = 503 }
    ∷ []

-- the status for a code: that of its row, or 409 if it is in none
abbrev pub status_in : List Row → ℕ → ℕ
status_in [] code = 409
status_in (row ∷ rows) code =
    if nat_le row.first code && nat_le code row.last then row.status else status_in rows code

-- the HTTP status for a code
abbrev pub reply_status : ℕ → ℕ
reply_status code = status_in statuses code
