-- The tables of a store, and the schemas that have them.
use Rattle.one_table.specs.Columns.{required, blank, refers, keyed, no_schema}
use Rattle.pawn_tables.specs.Common.{Schema, Table}
use Rattle.sqlite.specs.Change.{created}
use Rattle.sqlite.specs.Kind.TheVariants.{Integer, Text, Blob}
use Rattle.sqlite_value.specs.Keys.{plain}
use Rattle.std.specs.Prelude.{ℕ, [], ◌∷◌, Some, codes}

-- One row for each book, by its number: its key, name and capacity, how many versions of terms and pledges it has, the
-- key of the import that filled it, and how many pledges the import brought.
abbrev pub books : Table
books = record (keyed (codes "books")
    (blank (codes "book") Integer ∷ required (codes "book_key") Blob ∷ required (codes "title") Text ∷ required (codes "capacity") Integer
    ∷ required (codes "terms") Integer ∷ required (codes "pledges") Integer ∷ blank (codes "import_key") Blob ∷ blank (codes "imported") Integer ∷ [])
    (0 ∷ []) [] []) { key = Some 0 }

-- one row for each version of a book's terms
abbrev pub terms : Table
terms = record (keyed (codes "terms")
    (required (codes "book") Integer ∷ required (codes "version") Integer ∷ required (codes "rate") Integer ∷ required (codes "keep_before") Integer
    ∷ required (codes "keep_after") Integer ∷ [])
    (1 ∷ 2 ∷ []) ((1 ∷ 2 ∷ []) ∷ []) (refers (1 ∷ []) (codes "books") ∷ [])) { orders = plain ∷ [] }

-- one row for each pledge: what was agreed, the end of its period, and the single values that can change
abbrev pub pledges : Table
pledges = record (keyed (codes "pledges")
    (required (codes "book") Integer ∷ required (codes "number") Integer ∷ required (codes "ref") Text ∷ required (codes "article") Text
    ∷ required (codes "kind") Integer ∷ required (codes "credit") Integer ∷ required (codes "taken") Integer ∷ blank (codes "agreed") Integer
    ∷ required (codes "five") Integer ∷ required (codes "version") Integer ∷ required (codes "ends") Integer ∷ required (codes "held") Integer
    ∷ required (codes "last_day") Integer ∷ required (codes "closed") Integer ∷ blank (codes "closed_day") Integer ∷ blank (codes "amount") Integer ∷ [])
    (1 ∷ 2 ∷ []) ((1 ∷ 2 ∷ []) ∷ (1 ∷ 3 ∷ []) ∷ []) (refers (1 ∷ 10 ∷ []) (codes "terms") ∷ [])) { orders = plain ∷ plain ∷ [] }

-- one row for each drawing and repayment
abbrev pub entries : Table
entries = record (keyed (codes "entries")
    (required (codes "book") Integer ∷ required (codes "number") Integer ∷ required (codes "seq") Integer ∷ required (codes "day") Integer
    ∷ required (codes "sort") Integer ∷ required (codes "pence") Integer ∷ [])
    (1 ∷ 2 ∷ 3 ∷ []) ((1 ∷ 2 ∷ 3 ∷ []) ∷ []) (refers (1 ∷ 2 ∷ []) (codes "pledges") ∷ [])) { orders = plain ∷ [] }

-- one row for each secret of a pledge, by its place
abbrev pub secrets : Table
secrets = record (keyed (codes "secrets")
    (required (codes "book") Integer ∷ required (codes "number") Integer ∷ required (codes "place") Integer ∷ required (codes "day") Integer
    ∷ required (codes "sort") Integer ∷ required (codes "secret") Blob ∷ [])
    (1 ∷ 2 ∷ 3 ∷ []) ((1 ∷ 2 ∷ 3 ∷ []) ∷ (1 ∷ 2 ∷ 6 ∷ []) ∷ []) (refers (1 ∷ 2 ∷ []) (codes "pledges") ∷ [])) { orders = plain ∷ plain ∷ [] }

-- at most one row for each pledge: its booking
abbrev pub bookings : Table
bookings = record (keyed (codes "bookings")
    (required (codes "book") Integer ∷ required (codes "number") Integer ∷ required (codes "day") Integer ∷ required (codes "slot") Integer
    ∷ required (codes "state") Integer ∷ [])
    (1 ∷ 2 ∷ []) ((1 ∷ 2 ∷ []) ∷ []) (refers (1 ∷ 2 ∷ []) (codes "pledges") ∷ [])) { orders = plain ∷ [] }

-- the notes: the number of the schema, the count of the counted rows, and the limit on them
abbrev pub meta : Table
meta = record (keyed (codes "meta") (required (codes "name") Text ∷ required (codes "value") Integer ∷ []) (1 ∷ []) ((1 ∷ []) ∷ []) []) { orders = plain ∷ [] }

-- one row for each pledge: the sum owed on the day of the last entry
abbrev pub totals : Table
totals = record (keyed (codes "totals")
    (required (codes "book") Integer ∷ required (codes "number") Integer ∷ required (codes "day") Integer ∷ required (codes "principal") Integer
    ∷ required (codes "charges") Integer ∷ [])
    (1 ∷ 2 ∷ []) ((1 ∷ 2 ∷ []) ∷ []) (refers (1 ∷ 2 ∷ []) (codes "pledges") ∷ [])) { orders = plain ∷ [] }

-- one row for each extension of a pledge's period, by its place
abbrev pub extensions : Table
extensions = record (keyed (codes "extensions")
    (required (codes "book") Integer ∷ required (codes "number") Integer ∷ required (codes "place") Integer ∷ required (codes "day") Integer
    ∷ required (codes "until_day") Integer ∷ [])
    (1 ∷ 2 ∷ 3 ∷ []) ((1 ∷ 2 ∷ 3 ∷ []) ∷ []) (refers (1 ∷ 2 ∷ []) (codes "pledges") ∷ [])) { orders = plain ∷ [] }

-- The trees of the tables, numbered in the order in which they are made. The numbers between are the trees of their
-- indexes.
abbrev pub books_tree : ℕ
books_tree = 0

abbrev pub terms_tree : ℕ
terms_tree = 1

abbrev pub pledges_tree : ℕ
pledges_tree = 3

abbrev pub entries_tree : ℕ
entries_tree = 6

abbrev pub secrets_tree : ℕ
secrets_tree = 8

abbrev pub bookings_tree : ℕ
bookings_tree = 11

abbrev pub meta_tree : ℕ
meta_tree = 13

abbrev pub totals_tree : ℕ
totals_tree = 15

abbrev pub extensions_tree : ℕ
extensions_tree = 17

-- the tables of the first schema
abbrev pub first_schema : Schema
first_schema = created (created (created (created (created (created (created no_schema books) terms) pledges) entries) secrets) bookings) meta

-- the second schema has the table of totals in addition
abbrev pub second_schema : Schema
second_schema = created first_schema totals

-- the third schema, which is the program's, has the table of extensions in addition
abbrev pub keep_schema : Schema
keep_schema = created second_schema extensions
