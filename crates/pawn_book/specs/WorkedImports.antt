-- Worked examples of imports: a book is filled once.
use Rattle.pawn_book.specs.BookStep.{BookValue, Outcome, Replied, Refuses, Says, Makes, book_after, book_step}
use Rattle.pawn_book.specs.Common.{free, ring}
use Rattle.pawn_book.specs.WorkedSlots.{at, one_book}
use Rattle.pawn_book.specs.declared.change.Change.TheVariants.{ImportBook}
use Rattle.pawn_book.specs.declared.refusal.Refusal.TheVariants.{BookNotEmpty, NoSuchBook}
use Rattle.pawn_book.specs.declared.reply.Reply.TheVariants.{BookFilled}
use Rattle.pawn_book.specs.declared.request.BrokerRequest.TheVariants.{Import}
use Rattle.pawn_book.specs.declared.request.Caller.TheVariants.{Broker}
use Rattle.pawn_book.specs.declared.book_rows.BookRows.{BookRows}
use Rattle.std.specs.Prelude.{◌≡◌, ℕ, [], ◌∷◌, Option, Some, None, codes}

-- book 7 with the key 5, without terms, pledges and an import
abbrev pub empty_book : Option BookValue
empty_book = Some (record { key = 5; name = codes "High Street"; capacity = 1; terms = []; pledges = []; imported = None })

-- a ring under terms without charges
abbrev pub ring_rows : BookRows
ring_rows = record { terms = free ∷ []; pledges = ring 10000 ∷ [] }

-- rows without terms and pledges
abbrev pub no_book_rows : BookRows
no_book_rows = record { terms = []; pledges = [] }

-- the outcome of the import of rows under a key, by the broker's key 5
abbrev pub import_outcome : ℕ → BookRows → Option BookValue → Outcome
import_outcome key rows book = book_step book 9 7 (at 1) (Broker 5 (Import key rows))

-- the book after the import of the ring under key 6
abbrev pub book_filled : Option BookValue
book_filled = book_after empty_book (import_outcome 6 ring_rows empty_book)

-- the first import, its repeats, and the imports that are refused
pub record WorkedImports : Type 0 where
  -- the rows become those of the book, and their key becomes that of its import
  pub first : import_outcome 6 ring_rows empty_book ≡ Makes (ImportBook 7 6 ring_rows) (BookFilled 1)
  pub fills : book_filled ≡ Some (record
      { key = 5; name = codes "High Street"; capacity = 1; terms = free ∷ []; pledges = ring 10000 ∷ []; imported = Some (record { key = 6; pledges = 1 }) })
  -- a repeat under its key gets the answer of the first time, whatever its rows
  pub again : import_outcome 6 ring_rows book_filled ≡ Says (Replied (BookFilled 1))
  pub again_without : import_outcome 6 no_book_rows book_filled ≡ Says (Replied (BookFilled 1))
  -- an import under another key, or into a book with terms, is refused
  pub another : import_outcome 8 ring_rows book_filled ≡ Refuses BookNotEmpty
  pub with_terms : import_outcome 6 ring_rows one_book ≡ Refuses BookNotEmpty
  -- an import without rows also fills the book, and its key is kept
  pub nothing : import_outcome 6 no_book_rows empty_book ≡ Makes (ImportBook 7 6 no_book_rows) (BookFilled 0)
  pub after_nothing : import_outcome 8 ring_rows (book_after empty_book (import_outcome 6 no_book_rows empty_book)) ≡ Refuses BookNotEmpty
  -- the key of the book is checked first
  pub other_broker : book_step book_filled 9 7 (at 1) (Broker 6 (Import 6 ring_rows)) ≡ Refuses NoSuchBook
