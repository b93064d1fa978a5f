-- What a text means under a schema.
use Rattle.one_table.specs.Common.{Compiled, CompileError, Returning, Compare, Eq, Key, Binary, Insert, Select, Update}
use Rattle.one_table.specs.Common.{Schema, Values, Term, col, op2}
use Rattle.sqlite.proofs.Callers.{IsPlain, command_of}
use Rattle.sqlite.specs.Listing.{reads_listing, understood}
use Rattle.sqlite.specs.Query.{Query}
use Rattle.std.proofs.Common.{Err, List, None, Ok, Option, Result, Some, [], false, true, ℕ, ◌∷◌, ◌≡◌}

-- the text is this query, which shows columns of these names, and nothing else
abbrev pub Asks : Schema → List ℕ → Query → List (List ℕ) → Type 0
Asks schema text query names = (command_of (understood schema text) ≡ Select (record { lets = []; body = query }) names) × (reads_listing schema text ≡ false)
    × IsPlain (understood schema text)

-- the text puts one row of these values into the table at a place
abbrev pub Puts : Schema → List ℕ → ℕ → List Term → ℕ → Type 0
Puts schema text at values width = (command_of (understood schema text) ≡ Insert at (Values values width)) × IsPlain (understood schema text)

-- the text changes rows of the table at a place, found by this query
abbrev pub Sets : Schema → List ℕ → ℕ → Query → Type 0
Sets schema text at query = (command_of (understood schema text) ≡ Update at (record { lets = []; body = query })) × IsPlain (understood schema text)

-- a column is a parameter
abbrev pub is_param : ℕ → ℕ → Term
is_param place param = op2 (Compare Eq Binary) (col 1 place) (col 0 param)

-- in the order of a column
abbrev pub by_column : ℕ → List (Term × Key)
by_column place = (col 1 place, record { collation = Binary; descending = false }) ∷ []

-- in the order of a column, the highest first
abbrev pub by_column_down : ℕ → List (Term × Key)
by_column_down place = (col 1 place, record { collation = Binary; descending = true }) ∷ []

-- what the text returns of the rows that it writes
abbrev pub returning_of : Result Compiled CompileError → Option Returning
returning_of (Ok c) = c.returning
returning_of (Err e) = None

-- the formats of time that the text reads
abbrev pub formats_of : Result Compiled CompileError → List (List ℕ)
formats_of (Ok c) = c.formats
formats_of (Err e) = []

-- the text changes rows of the table at a place, found by this query, and returns them
abbrev pub Returns : Schema → List ℕ → ℕ → Query → Returning → Type 0
Returns schema text at query what =
    (command_of (understood schema text) ≡ Update at (record { lets = []; body = query })) × (returning_of (understood schema text) ≡ Some what)
    × (formats_of (understood schema text) ≡ [])
