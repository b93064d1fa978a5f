-- A worked example: the tables of a host with one book, in which a ring is pawned.
use Rattle.pawn_pledge.specs.Worked.{ring, ring_opening}
use Rattle.pawn_pledge.specs.declared.record.BookingState.TheVariants.{Confirmed}
use Rattle.pawn_tables.specs.Common.{empty, entries, insert, Value, Blob, Int, Null, Text, rates_of, Entry, Fixed}
use Rattle.pawn_tables.specs.Common.{Repay, PledgeValue, AreNumbered, Open, Redeemed, Issue, Issued, BookValue, Host}
use Rattle.pawn_tables.specs.Common.{rows}
use Rattle.pawn_tables.specs.Entries.{IsEntriesPage, RiseFrom}
use Rattle.pawn_tables.specs.Meta.{meta_rows}
use Rattle.pawn_tables.specs.Places.{page_behind}
use Rattle.pawn_tables.specs.Rows.{word, book_row, terms_listed, pledge_listed, entries_listed, secrets_listed}
use Rattle.pawn_tables.specs.Rows.{booking_listed, totals_listed, extensions_listed, closed_number, closed_day}
use Rattle.pawn_tables.specs.Rows.{closed_amount}
use Rattle.pawn_tables.specs.StandsFor.{of_books, of_pledges}
use Rattle.pawn_terms.specs.Worked.{date}
use Rattle.std.specs.Prelude.{◌≡◌, ℕ, false, [], ◌∷◌, Some, None, length, map, pos, replicate, codes}

-- the secret 4, issued on a sworn declaration on 2024-01-31
abbrev pub sworn : Issued
sworn = record { day = date 2024 1 31; sort = Issue.Sworn; secret = 4 }

-- A ring, pawned for 100 pounds on 2024-01-01 (day 19723) at 2,667 millionths a day. On 2024-01-31 (day 19753) ten
-- pounds are repaid, the receipt is declared lost, a visit in window 2 of 2024-02-07 (day 19760) is confirmed, and an
-- extension to 2024-09-30 (day 19996) is agreed.
abbrev pub used_ring : PledgeValue
used_ring = record {
  agreement = record { number = 1; opening = ring_opening (Fixed 10000) false None; taken = date 2024 1 1; version = 1; terms = rates_of 2667 0 0 };
  entries = record { seq = 1; day = date 2024 1 31; sort = Repay; pence = 1000 } ∷ [];
  secrets = record { day = date 2024 1 1; sort = Issue.Opening; secret = 3 } ∷ sworn ∷ [];
  extensions = record { day = date 2024 1 31; until = date 2024 9 30 } ∷ [];
  standing = record { held = false; booking = Some (record { day = date 2024 2 7; window = 2; state = Confirmed }); last = date 2024 1 31; closing = Open };
}

-- a book with the key 5
abbrev pub stored_book : BookValue
stored_book = record { key = 5; name = codes "High Street"; capacity = 2; terms = rates_of 2667 0 0 ∷ []; pledges = used_ring ∷ []; imported = None }

-- the host with only that book, as number 7, and a limit of 1,000 rows
abbrev pub host_of_stored_book : Host
host_of_stored_book = record { books = insert empty 7 stored_book; limit = 1000 }

-- a cell with a number
abbrev pub n : ℕ → Value
n number = Int (pos number)

-- a repayment of ten pounds on 2024-01-31, with a number
abbrev pub entry : ℕ → Entry
entry number = record { seq = number; day = date 2024 1 31; sort = Repay; pence = 1000 }

pub record WorkedTables : Type 0 where
  pub books : map (λ (e : ℕ × BookValue). book_row e.0 e.1)
      (entries host_of_stored_book.books) ≡ (n 7 ∷ word 5 ∷ Text (codes "High Street") ∷ n 2 ∷ n 1 ∷ n 1 ∷ Null ∷ Null ∷ []) ∷ []
  pub terms : of_books host_of_stored_book terms_listed ≡ (n 7 ∷ n 1 ∷ n 2667 ∷ n 0 ∷ n 0 ∷ []) ∷ []
  -- the period ends on the day that was agreed last
  pub pledges : of_pledges host_of_stored_book pledge_listed ≡ (
      n 7 ∷ n 1 ∷ Text (codes "A1") ∷ Text (codes "Gold ring") ∷ n 0 ∷ n 10000 ∷ n 19723 ∷ Null ∷ n 0 ∷ n 1
      ∷ n 19996 ∷ n 0 ∷ n 19753 ∷ n 0 ∷ Null ∷ Null ∷ []) ∷ []
  pub entries_are : of_pledges host_of_stored_book entries_listed ≡ (n 7 ∷ n 1 ∷ n 1 ∷ n 19753 ∷ n 1 ∷ n 1000 ∷ []) ∷ []
  pub secrets : of_pledges host_of_stored_book secrets_listed ≡ (n 7 ∷ n 1 ∷ n 1 ∷ n 19723 ∷ n 0 ∷ word 3 ∷ [])
      ∷ (n 7 ∷ n 1 ∷ n 2 ∷ n 19753 ∷ n 1 ∷ word 4 ∷ []) ∷ []
  pub bookings : of_pledges host_of_stored_book booking_listed ≡ (n 7 ∷ n 1 ∷ n 19760 ∷ n 2 ∷ n 1 ∷ []) ∷ []
  pub extensions : of_pledges host_of_stored_book extensions_listed ≡ (n 7 ∷ n 1 ∷ n 1 ∷ n 19753 ∷ n 19996 ∷ []) ∷ []
  -- thirty days' charges are 800.1 pence; the repayment pays 800 of them, and a tenth of a penny remains
  pub totals : of_pledges host_of_stored_book totals_listed ≡ (n 7 ∷ n 1 ∷ n 19753 ∷ n 9800 ∷ n 100000 ∷ []) ∷ []
  -- seven rows are counted: a book, a version of terms, a pledge, an entry, two secrets and a booking
  pub notes : meta_rows (rows host_of_stored_book) host_of_stored_book.limit ≡ (Text (codes "schema") ∷ n 3 ∷ []) ∷ (Text (codes "rows") ∷ n 7 ∷ [])
      ∷ (Text (codes "limit") ∷ n 1000 ∷ []) ∷ []
  -- a key is encoded as sixteen bytes
  pub key : word 5 ≡ Blob (0 ∷ 0 ∷ 0 ∷ 0 ∷ 0 ∷ 0 ∷ 0 ∷ 0 ∷ 0 ∷ 0 ∷ 0 ∷ 0 ∷ 0 ∷ 0 ∷ 0 ∷ 5 ∷ [])
  -- a ring that was only pawned has no rows of entries, bookings and extensions
  pub no_entry : entries_listed 7 (ring 10000) ≡ []
  pub no_booking : booking_listed 7 (ring 10000) ≡ []
  pub no_extension : extensions_listed 7 (ring 10000) ≡ []
  -- entries 1 and 3 are in order, although 2 is missing: tables with such a gap can stand for a host, but not for a
  -- sound one
  pub gap : RiseFrom 0 (entry 1 ∷ entry 3 ∷ []) × (AreNumbered 1 (entry 1 ∷ entry 3 ∷ []) → ⊥)
  -- the page from number 2 on has entry 3, and is the last page
  pub over_gap : IsEntriesPage 2 (entry 1 ∷ entry 3 ∷ []) (entry 3 ∷ [])
  -- of 65 secrets the first page has 64, and the page after place 64 only the last
  pub full_page : length (page_behind 0 (replicate 65 sworn)) ≡ 64
  pub last_page : page_behind 64 (replicate 65 sworn) ≡ sworn ∷ []
  -- redeemed on day 19763 for 90 pounds
  pub redeemed : (closed_number (Redeemed 19763 9000) ≡ 1) × (closed_day (Redeemed 19763 9000) ≡ Some 19763) × (closed_amount (Redeemed 19763 9000) ≡ Some 9000)
