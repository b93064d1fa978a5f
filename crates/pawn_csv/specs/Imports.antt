-- The request that an import makes.
use Rattle.pawn_book.specs.declared.request.BrokerRequest.TheVariants.{Import}
use Rattle.pawn_book.specs.declared.request.Caller.TheVariants.{Broker}
use Rattle.pawn_book.specs.declared.request.Request.{Request}
use Rattle.pawn_csv.specs.Common.{BookRows, ℕ}

-- the request to fill a book with these terms and pledges, with the book's key and the import's own key
abbrev pub import_of : ℕ → ℕ → ℕ → BookRows → Request
import_of book book_key import_key rows = record { book = book; caller = Broker book_key (Import import_key rows) }
