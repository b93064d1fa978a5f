-- A worked example: the names and columns of the program's two indexes. Columns are counted from 1.
use Rattle.pawn_opening.specs.Common.{Index}
use Rattle.pawn_tables.specs.Schema.{bookings, bookings_tree, pledges, pledges_tree}
use Rattle.pawn_tables.specs.declared.texts.TheConstants.{MAKE_BOOKINGS_BY_TIME, MAKE_PLEDGES_BY_END}
use Rattle.sqlite.specs.Compile.{index_defined_by}
use Rattle.sqlite_value.specs.Keys.{plain}
use Rattle.std.specs.Prelude.{◌≡◌, ℕ, false, List, [], ◌∷◌, codes, Ok}

-- an index with this name over these columns of the table with this tree; the index has no tree of its own yet
abbrev pub index_over : List ℕ → ℕ → List ℕ → Index
index_over name table columns = record { name = name; tree = 0; table = table; columns = columns; order = plain; is_unique = false }

-- the index of pledges by book, closing, end and number
abbrev pub WorkedByEnd : Type 0
WorkedByEnd = index_defined_by (record pledges { tree = pledges_tree }) MAKE_PLEDGES_BY_END.now
    ≡ Ok (index_over (codes "pledges_by_end") pledges_tree (1 ∷ 14 ∷ 11 ∷ 2 ∷ []))

-- the index of bookings by book, day, state, number and window
abbrev pub WorkedByTime : Type 0
WorkedByTime = index_defined_by (record bookings { tree = bookings_tree }) MAKE_BOOKINGS_BY_TIME.now
    ≡ Ok (index_over (codes "bookings_by_time") bookings_tree (1 ∷ 3 ∷ 5 ∷ 2 ∷ 4 ∷ []))
