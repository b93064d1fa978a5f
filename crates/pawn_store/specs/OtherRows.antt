-- The rows of one book: no request on another book changes them.
use Rattle.one_table.specs.Listing.{columns_of}
use Rattle.pawn_book.specs.HostStep.{Host}
use Rattle.pawn_book.specs.Plans.{next_host}
use Rattle.pawn_book.specs.Runs.{Event, request_in, run_host}
use Rattle.pawn_book.specs.declared.request.Request.{Request}
use Rattle.pawn_pledge.specs.declared.command.Stamp.{Stamp}
use Rattle.pawn_tables.specs.At.{at_book}
use Rattle.pawn_tables.specs.Schema.{books, terms, pledges, entries, secrets, bookings, totals, extensions}
use Rattle.pawn_tables.specs.Schema.{bookings_tree, books_tree, entries_tree, extensions_tree, pledges_tree}
use Rattle.pawn_tables.specs.Schema.{secrets_tree, terms_tree, totals_tree}
use Rattle.pawn_tables.specs.StandsFor.{StandsFor}
use Rattle.sqlite.specs.Effect.{Database}
use Rattle.sqlite.specs.Order.{Row}
use Rattle.sqlite.specs.Table.{Table}
use Rattle.sqlite.specs.Tree.{Trees}
use Rattle.std.specs.List.{AllByRecursion}
use Rattle.std.specs.Prelude.{ℕ, ◌≢◌, List, [], ◌∷◌, filter, map, Option, None, Some, IsPermutation}

-- the tables with rows of books: all except meta
abbrev pub book_tables : List Table
book_tables =
    record books { tree = books_tree } ∷ record terms { tree = terms_tree } ∷ record pledges { tree = pledges_tree } ∷ record entries { tree = entries_tree }
    ∷ record secrets { tree = secrets_tree }
    ∷ record bookings { tree = bookings_tree } ∷ record totals { tree = totals_tree } ∷ record extensions { tree = extensions_tree } ∷ []

-- the rows of a table with a book's number, as SELECT * returns them
abbrev pub rows_under_book : ℕ → Trees → Table → List Row
rows_under_book b trees table = filter (at_book b) (map (columns_of table) (trees table.tree))

-- each table has the same rows of the book, in any order
abbrev pub HaveSameRows : ℕ → Trees → Trees → Type 0
HaveSameRows b old new = AllByRecursion (λ table. IsPermutation (rows_under_book b old table) (rows_under_book b new table)) book_tables

-- no request changes a row of another book
abbrev pub OtherRowsStay : Type 0
OtherRowsStay =
    (old new : Database) (h : Host) (operator b : ℕ) (stamp : Stamp) (request : Request)
    → StandsFor old h → StandsFor new (next_host h operator stamp request)
    → request.book ≢ b → HaveSameRows b old.trees new.trees

-- if a request was read, it is not on this book
abbrev pub IsElsewhere : ℕ → Option Request → Type 0
IsElsewhere b None = Unit {0}
IsElsewhere b (Some request) = request.book ≢ b

-- none of the requests that were read is on this book
abbrev pub AreElsewhere : {F : Type 0} → ℕ → List (Event F) → Type 0
AreElsewhere b events = AllByRecursion (λ event. IsElsewhere b (request_in event.mark)) events

-- no run of requests on other books changes a row of this one
abbrev pub OtherRowsStayInRuns : Type 0 → Type 0
OtherRowsStayInRuns F =
    (old new : Database) (h : Host) (operator b : ℕ) (events : List (Event F))
    → StandsFor old h → StandsFor new (run_host h operator events)
    → AreElsewhere b events → HaveSameRows b old.trees new.trees
