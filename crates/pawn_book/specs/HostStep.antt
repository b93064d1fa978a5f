-- One step of a host: many books, and a limit on their rows.
use Rattle.pawn_book.specs.BookStep.{BookValue, Outcome, Refuses, Says, Makes, changed_book, book_step}
use Rattle.pawn_book.specs.Common.{Booking, PledgeValue, Stamp}
use Rattle.pawn_book.specs.declared.refusal.Refusal.TheVariants.{Full}
use Rattle.pawn_book.specs.declared.request.Request.{Request}
use Rattle.std.specs.FinMap.{FinMap, get, insert, values}
use Rattle.std.specs.Ordering.{nat_cmp}
use Rattle.std.specs.Prelude.{ℕ, ◌+◌, Option, Some, None, if◌then◌else◌, nat_lt, length, sum_by}

-- a host: its books by their numbers, and the limit on its rows
pub record Host : Type 0 where
  pub books : FinMap nat_cmp BookValue
  pub limit : ℕ

-- one row for a booking
abbrev pub booking_row_count : Option Booking → ℕ
booking_row_count None = 0
booking_row_count (Some booking) = 1

-- the rows of a pledge: one for itself, one for each entry and secret, and one for its booking
abbrev pub pledge_row_count : PledgeValue → ℕ
pledge_row_count p = 1 + length p.entries + length p.secrets + booking_row_count p.standing.booking

-- the rows of a book: one for itself, one for each version of its terms, and those of its pledges
abbrev pub book_row_count : BookValue → ℕ
book_row_count book = 1 + length book.terms + sum_by pledge_row_count book.pledges

-- the rows of all books of a host
abbrev pub rows : Host → ℕ
rows h = sum_by book_row_count (values h.books)

-- the host with this book under number b
abbrev pub with_book : Host → ℕ → Option BookValue → Host
with_book h b None = h
with_book h b (Some book) = record h { books = insert h.books b book }

-- the host after an outcome of book b
abbrev pub host_after : Host → ℕ → Outcome → Host
host_after h b (Refuses why) = h
host_after h b (Says out) = h
host_after h b (Makes change reply) = with_book h b (changed_book (get h.books b) change)

-- a change that would bring the rows above the limit is refused, if nothing else refuses it
abbrev pub within_limit : Host → ℕ → Outcome → Outcome
within_limit h b (Refuses why) = Refuses why
within_limit h b (Says out) = Says out
within_limit h b (Makes change reply) =
    if nat_lt h.limit (rows (with_book h b (changed_book (get h.books b) change))) then Refuses Full else Makes change reply

-- the outcome of a request: the step of its book, within the limit on rows
abbrev pub host_step : Host → ℕ → Stamp → Request → Outcome
host_step h operator stamp request =
    within_limit h request.book (book_step (get h.books request.book) operator request.book stamp request.caller)
