-- Worked examples of rows: which are accepted, and for which cause others are refused.
use Rattle.pawn_csv.specs.Common.{BookRows, Issue, PledgeValue, default_writer, row_text}
use Rattle.pawn_csv.specs.Order.{Begun, is_whole, run}
use Rattle.pawn_csv.specs.Rows.{pledge_columns, csv1_rows, row_fields, book_csv_rows}
use Rattle.pawn_csv.specs.Types.{Cause, NUMBERS_END, Row, Version}
use Rattle.pawn_debt.specs.Worked.{free}
use Rattle.pawn_pledge.specs.Worked.{ring}
use Rattle.pawn_pledge.specs.declared.record.BookingState.TheVariants.{Asked}
use Rattle.pawn_terms.specs.Worked.{date}
use Rattle.std.specs.Prelude.{◌≡◌, Bool, true, false, ℕ, List, [], ◌∷◌, map, Option, None, Some, Result, Ok, Err, codes}

-- a ring whose period was extended
abbrev pub extended_ring : PledgeValue
extended_ring =
    let p = ring 10000 in
    record p { extensions = record { day = date 2024 2 1; until = date 2024 9 30 } ∷ [] }

abbrev pub ring_book : BookRows
ring_book = record { terms = free ∷ []; pledges = ring 10000 ∷ [] }

abbrev pub extended_book : BookRows
extended_book = record { terms = free ∷ []; pledges = extended_ring ∷ [] }

-- a ring for which a declaration was tendered and a booking was asked for
abbrev pub ring_tendered : PledgeValue
ring_tendered =
    let p = ring 10000 in
    record p {
      secrets = record { day = date 2024 1 31; sort = Issue.Opening; secret = 3 } ∷ record { day = date 2024 2 1; sort = Issue.Sworn; secret = 4 } ∷ [];
      standing = record p.standing { last = date 2024 2 1; booking = Some (record { day = date 2024 2 10; window = 3; state = Asked }) };
    }

abbrev pub declared_book : BookRows
declared_book = record { terms = free ∷ []; pledges = ring_tendered ∷ [] }

-- the lines of a text
abbrev pub lines_of : List (List (List ℕ)) → List (List ℕ)
lines_of records = map (row_text default_writer) records

abbrev pub ended : Result (Option Begun) Cause → Result Bool Cause
ended (Ok s) = Ok (is_whole s)
ended (Err e) = Err e

-- the result of rows: the cause of the first that is refused, or otherwise whether the text may end there
abbrev pub comes_to : List Row → Result Bool Cause
comes_to rows = ended (run None rows)

pub record WorkedRowTexts : Type 0 where
  -- a number has twelve digits at most
  pub numbers : NUMBERS_END ≡ 1000000000000
  -- a version of terms is a row of 15 columns
  pub terms : row_fields (Row.Terms 1 free) ≡ codes "T" ∷ codes "1" ∷ codes "0" ∷ codes "0" ∷ codes "0" ∷ [] ∷ [] ∷ [] ∷ [] ∷ [] ∷ [] ∷ [] ∷ [] ∷ [] ∷ [] ∷ []
  -- an extension, and a pledge
  pub extension : row_fields (Row.Extension 1 1 (record { day = date 2024 2 1; until = date 2024 9 30 })) ≡ codes "X" ∷ codes "1" ∷ codes "1"
      ∷ codes "2024-02-01" ∷ codes "2024-09-30" ∷ [] ∷ [] ∷ [] ∷ [] ∷ [] ∷ [] ∷ [] ∷ [] ∷ [] ∷ [] ∷ []
  pub pledge :
      row_fields (Row.Pledge (pledge_columns (ring 10000)))
      ≡ codes "P" ∷ codes "1" ∷ codes "A1" ∷ codes "Gold ring" ∷ codes "fixed" ∷ codes "10000" ∷ codes "2024-01-31" ∷ [] ∷ codes "no" ∷ codes "1" ∷ codes "no"
      ∷ codes "2024-01-31" ∷ codes "open" ∷ [] ∷ [] ∷ []
  -- a whole book, line by line
  pub example :
      lines_of (csv1_rows declared_book)
      ≡ codes "row,c1,c2,c3,c4,c5,c6,c7,c8,c9,c10,c11,c12,c13,c14\n"
      ∷ codes "B,1,1,1,,,,,,,,,,,\n"
      ∷ codes "T,1,0,0,0,,,,,,,,,,\n"
      ∷ codes "P,1,A1,Gold ring,fixed,10000,2024-01-31,,no,1,no,2024-02-01,open,,\n"
      ∷ codes "S,1,1,2024-01-31,opening,00000000-0000-0000-0000-000000000003,,,,,,,,,\n"
      ∷ codes "S,1,2,2024-02-01,sworn,00000000-0000-0000-0000-000000000004,,,,,,,,,\n"
      ∷ codes "K,1,2024-02-10,3,asked,,,,,,,,,,\n"
      ∷ []
  -- a column with a comma or a quote is quoted
  pub quoted : row_text default_writer (codes "a,b" ∷ codes "\"" ∷ []) ≡ codes "\"a,b\",\"\"\"\"\n"
  -- the rows of a book may end there
  pub declared : comes_to (book_csv_rows Version.One declared_book) ≡ Ok true
  pub unbooked : comes_to (book_csv_rows Version.One
      (record { terms = free ∷ []; pledges = record ring_tendered { standing = record ring_tendered.standing { booking = None } } ∷ [] })) ≡ Ok true
  pub whole : comes_to (book_csv_rows Version.Two ring_book) ≡ Ok true
  pub extended : comes_to (book_csv_rows Version.Two extended_book) ≡ Ok true
  -- version 1 has no extensions
  pub first_version : comes_to (book_csv_rows Version.One extended_book) ≡ Err Cause.BadField
  -- no row at all, and rows of which one is missing
  pub empty : comes_to [] ≡ Ok false
  pub wanting : comes_to (Row.Book Version.Two 1 1 ∷ Row.Terms 1 free ∷ []) ≡ Ok false
  -- counts above the limits are checked before the order of the row
  pub counts : comes_to (Row.Book Version.Two 0 0 ∷ Row.Book Version.Two 100 0 ∷ []) ≡ Err Cause.TooMany
  pub twice : comes_to (Row.Book Version.Two 0 0 ∷ Row.Book Version.Two 0 0 ∷ []) ≡ Err Cause.Order
  -- a gap in the versions of terms, and one more version than the first row states
  pub gap : comes_to (Row.Book Version.Two 2 0 ∷ Row.Terms 2 free ∷ []) ≡ Err Cause.Order
  pub more : comes_to (Row.Book Version.Two 1 0 ∷ Row.Terms 1 free ∷ Row.Terms 2 free ∷ []) ≡ Err Cause.Order
