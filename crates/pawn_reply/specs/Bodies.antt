-- The JSON bodies of replies.
use Rattle.pawn_reply.specs.Types.{Detail, Row, Total}
use Rattle.std.specs.Prelude.{ℕ, List, ◌++◌, codes, decimal, Option, Some, None}

-- the number of the book that was made
abbrev pub book_text : ℕ → List ℕ
book_text book = codes "{\"book\":" ++ (decimal book ++ codes "}")

-- the version of the terms that were put
abbrev pub version_text : ℕ → List ℕ
version_text version = codes "{\"version\":" ++ (decimal version ++ codes "}")

-- the number of pledges that were imported
abbrev pub filled_text : ℕ → List ℕ
filled_text pledges = codes "{\"imported\":" ++ (decimal pledges ++ codes "}")

-- the number of a new pledge, and its first receipt
abbrev pub opened_text : ℕ → List ℕ → List ℕ
opened_text number receipt =
    codes "{\"number\":" ++ (decimal number ++ (codes ",\"receipt\":\"" ++ (receipt ++ codes "\"}")))

-- a refusal or a fault: its code and name, and the sum owing or the row of a text, if it has one
abbrev pub refusal_text : ℕ → List ℕ → Option Detail → List ℕ
refusal_text code name None =
    codes "{\"code\":" ++ (decimal code ++ (codes ",\"name\":\"" ++ (name ++ codes "\"}")))
refusal_text code name (Some (Total total)) =
    codes "{\"code\":" ++ (decimal code ++ (codes ",\"name\":\"" ++ (name ++ (codes "\",\"total\":" ++ (decimal total ++ codes "}")))))
refusal_text code name (Some (Row row)) =
    codes "{\"code\":" ++ (decimal code ++ (codes ",\"name\":\"" ++ (name ++ (codes "\",\"row\":" ++ (decimal row ++ codes "}")))))
