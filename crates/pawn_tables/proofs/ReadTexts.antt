-- What the texts of the queries mean.
pub use Rattle.pawn_tables.specs.declared.texts.TheConstants.{COUNT_ASKED, COUNT_CONFIRMED, COUNT_ENDS}
pub use Rattle.pawn_tables.specs.declared.texts.TheConstants.{FIND_NEXT_BOOK, FIND_REFERENCE, READ_ASKED_PAGE}
pub use Rattle.pawn_tables.specs.declared.texts.TheConstants.{READ_BOOKING, READ_CONFIRMED_PAGE, READ_CREDIT}
pub use Rattle.pawn_tables.specs.declared.texts.TheConstants.{READ_ENDS_PAGE, READ_ENTRIES, READ_ENTRIES_PAGE}
pub use Rattle.pawn_tables.specs.declared.texts.TheConstants.{READ_ENTRY, READ_EXTENSION, READ_EXTENSIONS}
pub use Rattle.pawn_tables.specs.declared.texts.TheConstants.{READ_EXTENSIONS_PAGE, READ_HEAD, READ_LAST_PLACE}
pub use Rattle.pawn_tables.specs.declared.texts.TheConstants.{READ_LAST_SECRET, READ_PLEDGE, READ_ROWS, READ_SECRET}
pub use Rattle.pawn_tables.specs.declared.texts.TheConstants.{READ_SECRETS, READ_SECRETS_PAGE, READ_TERMS, READ_TOTALS}
pub use Rattle.pawn_tables.specs.declared.texts.TheConstants.{READ_WINDOWS, READ_BOOKINGS_RANGE, READ_ENTRIES_RANGE}
pub use Rattle.pawn_tables.specs.declared.texts.TheConstants.{READ_EXTENSIONS_RANGE, READ_PLEDGES_RANGE}
pub use Rattle.pawn_tables.specs.declared.texts.TheConstants.{READ_SECRETS_RANGE, READ_LAST_SEQ}
use Rattle.one_table.proofs.Orders.{by_columns}
use Rattle.one_table.proofs.Distinct.{once_of_table}
use Rattle.pawn_tables.proofs.Basics.{few_of_table, first_of_table, over_table, Asks, by_column, by_column_down}
use Rattle.pawn_tables.proofs.Basics.{is_param}
use Rattle.pawn_tables.proofs.Counts.{how_many}
use Rattle.pawn_tables.specs.Common.{Index, Compare, Eq, Ge, Gt, Le, Lt, Binary, understood, Term, col, lit, op2, Int, Text}
use Rattle.pawn_tables.specs.Ours.{with_indexes}
use Rattle.pawn_tables.specs.Pages.{most_page_rows}
use Rattle.pawn_tables.specs.Schema.{bookings_tree, books_tree, entries_tree, extensions_tree, meta_tree, pledges_tree}
use Rattle.pawn_tables.specs.Schema.{secrets_tree, terms_tree, totals_tree}
use Rattle.sqlite_tied.specs.Compute.{everything}
use Rattle.std.proofs.Common.{List, [], ◌∷◌, ℕ, pos, codes, refl}

-- a row of a book
abbrev pub of_book : List Term
of_book = is_param 0 0 ∷ []

-- a row of a pledge
abbrev pub of_pledge : List Term
of_pledge = is_param 1 0 ∷ is_param 2 1 ∷ []

-- the columns after the number of a book, and those after the number of its pledge
abbrev pub one_shown : List Term
one_shown = col 1 2 ∷ []

abbrev pub three_shown : List Term
three_shown = col 1 3 ∷ col 1 4 ∷ col 1 5 ∷ []

abbrev pub four_shown : List Term
four_shown = col 1 3 ∷ col 1 4 ∷ col 1 5 ∷ col 1 6 ∷ []

abbrev pub head_shows : List Term
head_shows = col 1 2 ∷ col 1 3 ∷ col 1 4 ∷ col 1 5 ∷ col 1 6 ∷ col 1 7 ∷ col 1 8 ∷ []

abbrev pub pledge_shows : List Term
pledge_shows =
    col 1 3 ∷ col 1 4 ∷ col 1 5 ∷ col 1 6 ∷ col 1 7 ∷ col 1 8 ∷ col 1 9 ∷ col 1 10 ∷ col 1 11 ∷ col 1 12 ∷ col 1 13 ∷ col 1 14 ∷ col 1 15 ∷ col 1 16 ∷ []

abbrev pub credit_shows : List Term
credit_shows = col 1 5 ∷ col 1 6 ∷ col 1 7 ∷ col 1 8 ∷ col 1 10 ∷ []

abbrev pub ref_tests : List Term
ref_tests = is_param 1 0 ∷ is_param 3 1 ∷ []

abbrev pub confirmed_tests : List Term
confirmed_tests = is_param 1 0 ∷ is_param 3 1 ∷ is_param 4 2 ∷ op2 (Compare Eq Binary) (col 1 5) (lit (Int (pos 1))) ∷ []

abbrev pub next_tests : List Term
next_tests = op2 (Compare Gt Binary) (col 1 0) (col 0 0) ∷ []

abbrev pub next_shows : List Term
next_shows = col 1 0 ∷ []

-- a page of the entries from a number on
abbrev pub from_tests : List Term
from_tests = is_param 1 0 ∷ is_param 2 1 ∷ op2 (Compare Ge Binary) (col 1 3) (col 0 2) ∷ []

-- the count of rows
abbrev pub rows_tests : List Term
rows_tests = op2 (Compare Eq Binary) (col 1 1) (lit (Text (codes "rows"))) ∷ []

-- a row of a pledge, at a place
abbrev pub of_place : List Term
of_place = is_param 1 0 ∷ is_param 2 1 ∷ is_param 3 2 ∷ []

-- ---- the ends of a pledge's lists

abbrev pub last_place_shows : List Term
last_place_shows = col 1 3 ∷ []

-- SQL's = with a number of the text
abbrev is_number : ℕ → ℕ → Term
is_number place n = op2 (Compare Eq Binary) (col 1 place) (lit (Int (pos n)))

-- above a parameter
abbrev is_over : ℕ → ℕ → Term
is_over place param = op2 (Compare Gt Binary) (col 1 place) (col 0 param)

-- a row of a pledge, after a place
abbrev pub behind_tests : List Term
behind_tests = is_param 1 0 ∷ is_param 2 1 ∷ is_over 3 2 ∷ []

-- ---- the parts of a day's sheet

abbrev pub asked_tests : List Term
asked_tests = is_param 1 0 ∷ is_param 3 1 ∷ is_number 5 0 ∷ []

abbrev pub ends_tests : List Term
ends_tests = is_param 1 0 ∷ is_number 14 0 ∷ is_param 11 1 ∷ []

-- the windows with a confirmed visit, each once
abbrev pub windows_tests : List Term
windows_tests = is_param 1 0 ∷ is_param 3 1 ∷ is_number 5 1 ∷ op2 (Compare Lt Binary) (col 1 4) (lit (Int (pos 16))) ∷ []

abbrev pub windows_shows : List Term
windows_shows = col 1 4 ∷ []

abbrev pub confirmed_page_tests : List Term
confirmed_page_tests = is_param 1 0 ∷ is_over 2 1 ∷ is_param 3 2 ∷ is_param 4 3 ∷ is_number 5 1 ∷ []

abbrev pub asked_page_tests : List Term
asked_page_tests = is_param 1 0 ∷ is_over 2 1 ∷ is_param 3 2 ∷ is_number 5 0 ∷ []

abbrev pub asked_page_shows : List Term
asked_page_shows = col 1 2 ∷ col 1 4 ∷ []

abbrev pub ends_page_tests : List Term
ends_page_tests = is_param 1 0 ∷ is_over 2 1 ∷ is_number 14 0 ∷ is_param 11 2 ∷ []

-- ---- the rows of a range of pledges

abbrev pub range_tests : List Term
range_tests = is_param 1 0 ∷ is_over 2 1 ∷ op2 (Compare Le Binary) (col 1 2) (col 0 2) ∷ []

abbrev pub pledge_range_shows : List Term
pledge_range_shows =
    col 1 3 ∷ col 1 4 ∷ col 1 5 ∷ col 1 6 ∷ col 1 7 ∷ col 1 8 ∷ col 1 9 ∷ col 1 10 ∷ col 1 11 ∷ col 1 12 ∷ col 1 13 ∷ col 1 14 ∷ col 1 15 ∷ col 1 16
    ∷ col 1 2 ∷ []

abbrev pub four_range_shows : List Term
four_range_shows = col 1 3 ∷ col 1 4 ∷ col 1 5 ∷ col 1 6 ∷ col 1 2 ∷ []

abbrev pub three_range_shows : List Term
three_range_shows = col 1 3 ∷ col 1 4 ∷ col 1 5 ∷ col 1 2 ∷ []

-- what each text asks, whatever indexes the tables have
pub record Texts (more : List Index) : Type 0 where
  pub head_is : Asks (with_indexes more) READ_HEAD.now (over_table books_tree of_book head_shows [])
      (codes "book_key" ∷ codes "title" ∷ codes "capacity" ∷ codes "terms" ∷ codes "pledges" ∷ codes "import_key" ∷ codes "imported" ∷ [])
  pub entries_is : Asks (with_indexes more) READ_ENTRIES.now (over_table entries_tree of_pledge four_shown (by_column 3))
      (codes "seq" ∷ codes "day" ∷ codes "sort" ∷ codes "pence" ∷ [])
  pub terms_is : Asks (with_indexes more) READ_TERMS.now (over_table terms_tree of_pledge three_shown [])
      (codes "rate" ∷ codes "keep_before" ∷ codes "keep_after" ∷ [])
  pub pledge_is : Asks (with_indexes more) READ_PLEDGE.now (over_table pledges_tree of_pledge pledge_shows [])
      (codes "ref" ∷ codes "article" ∷ codes "kind" ∷ codes "credit" ∷ codes "taken" ∷ codes "agreed" ∷ codes "five" ∷ codes "version" ∷ codes "ends"
      ∷ codes "held" ∷ codes "last_day" ∷ codes "closed" ∷ codes "closed_day" ∷ codes "amount" ∷ [])
  pub credit_is : Asks (with_indexes more) READ_CREDIT.now (over_table pledges_tree of_pledge credit_shows [])
      (codes "kind" ∷ codes "credit" ∷ codes "taken" ∷ codes "agreed" ∷ codes "version" ∷ [])
  pub secrets_is : Asks (with_indexes more) READ_SECRETS.now (over_table secrets_tree of_pledge four_shown (by_column 3))
      (codes "place" ∷ codes "day" ∷ codes "sort" ∷ codes "secret" ∷ [])
  pub booking_is : Asks (with_indexes more) READ_BOOKING.now (over_table bookings_tree of_pledge three_shown [])
      (codes "day" ∷ codes "slot" ∷ codes "state" ∷ [])
  pub totals_is : Asks (with_indexes more) READ_TOTALS.now (over_table totals_tree of_pledge three_shown [])
      (codes "day" ∷ codes "principal" ∷ codes "charges" ∷ [])
  pub extensions_is : Asks (with_indexes more) READ_EXTENSIONS.now (over_table extensions_tree of_pledge three_shown (by_column 3))
      (codes "place" ∷ codes "day" ∷ codes "until_day" ∷ [])
  pub ref_is : Asks (with_indexes more) FIND_REFERENCE.now (first_of_table pledges_tree ref_tests one_shown (by_column 2)) (codes "number" ∷ [])
  pub confirmed_is : Asks (with_indexes more) COUNT_CONFIRMED.now (how_many bookings_tree confirmed_tests) (codes "count(*)" ∷ [])
  pub next_is : Asks (with_indexes more) FIND_NEXT_BOOK.now (first_of_table books_tree next_tests next_shows (by_column 0)) (codes "book" ∷ [])
  pub from_is : Asks (with_indexes more) READ_ENTRIES_PAGE.now (few_of_table most_page_rows entries_tree from_tests four_shown (by_column 3))
      (codes "seq" ∷ codes "day" ∷ codes "sort" ∷ codes "pence" ∷ [])
  pub rows_is : Asks (with_indexes more) READ_ROWS.now (over_table meta_tree rows_tests one_shown []) (codes "value" ∷ [])
  pub entry_is : Asks (with_indexes more) READ_ENTRY.now (over_table entries_tree of_place four_shown [])
      (codes "seq" ∷ codes "day" ∷ codes "sort" ∷ codes "pence" ∷ [])
  pub secret_is : Asks (with_indexes more) READ_SECRET.now (over_table secrets_tree of_place four_shown [])
      (codes "place" ∷ codes "day" ∷ codes "sort" ∷ codes "secret" ∷ [])
  pub extension_is : Asks (with_indexes more) READ_EXTENSION.now (over_table extensions_tree of_place three_shown [])
      (codes "place" ∷ codes "day" ∷ codes "until_day" ∷ [])
  pub last_seq_is : Asks (with_indexes more) READ_LAST_SEQ.now (first_of_table entries_tree of_pledge last_place_shows (by_column_down 3))
      (codes "seq" ∷ [])
  pub last_secret_is : Asks (with_indexes more) READ_LAST_SECRET.now (first_of_table secrets_tree of_pledge four_shown (by_column_down 3))
      (codes "place" ∷ codes "day" ∷ codes "sort" ∷ codes "secret" ∷ [])
  pub last_place_is : Asks (with_indexes more) READ_LAST_PLACE.now (first_of_table extensions_tree of_pledge last_place_shows (by_column_down 3))
      (codes "place" ∷ [])
  pub secrets_page_is : Asks (with_indexes more) READ_SECRETS_PAGE.now (few_of_table most_page_rows secrets_tree behind_tests four_shown (by_column 3))
      (codes "place" ∷ codes "day" ∷ codes "sort" ∷ codes "secret" ∷ [])
  pub extensions_page_is : Asks (with_indexes more) READ_EXTENSIONS_PAGE.now
      (few_of_table most_page_rows extensions_tree behind_tests three_shown (by_column 3)) (codes "place" ∷ codes "day" ∷ codes "until_day" ∷ [])
  pub asked_is : Asks (with_indexes more) COUNT_ASKED.now (how_many bookings_tree asked_tests) (codes "count(*)" ∷ [])
  pub ends_is : Asks (with_indexes more) COUNT_ENDS.now (how_many pledges_tree ends_tests) (codes "count(*)" ∷ [])
  pub windows_is : Asks (with_indexes more) READ_WINDOWS.now (once_of_table bookings_tree windows_tests windows_shows (Binary ∷ [])) (codes "slot" ∷ [])
  pub confirmed_page_is : Asks (with_indexes more) READ_CONFIRMED_PAGE.now
      (few_of_table most_page_rows bookings_tree confirmed_page_tests one_shown (by_column 2)) (codes "number" ∷ [])
  pub asked_page_is : Asks (with_indexes more) READ_ASKED_PAGE.now (few_of_table most_page_rows bookings_tree asked_page_tests asked_page_shows (by_column 2))
      (codes "number" ∷ codes "slot" ∷ [])
  pub ends_page_is : Asks (with_indexes more) READ_ENDS_PAGE.now (few_of_table most_page_rows pledges_tree ends_page_tests one_shown (by_column 2))
      (codes "number" ∷ [])
  pub pledges_range_is : Asks (with_indexes more) READ_PLEDGES_RANGE.now
      (few_of_table most_page_rows pledges_tree range_tests pledge_range_shows (by_column 2))
      (codes "ref" ∷ codes "article" ∷ codes "kind" ∷ codes "credit" ∷ codes "taken" ∷ codes "agreed" ∷ codes "five" ∷ codes "version" ∷ codes "ends"
      ∷ codes "held" ∷ codes "last_day" ∷ codes "closed" ∷ codes "closed_day" ∷ codes "amount" ∷ codes "number" ∷ [])
  pub secrets_range_is : Asks (with_indexes more) READ_SECRETS_RANGE.now
      (few_of_table most_page_rows secrets_tree range_tests four_range_shows (by_columns 2 3))
      (codes "place" ∷ codes "day" ∷ codes "sort" ∷ codes "secret" ∷ codes "number" ∷ [])
  pub entries_range_is : Asks (with_indexes more) READ_ENTRIES_RANGE.now
      (few_of_table most_page_rows entries_tree range_tests four_range_shows (by_columns 2 3))
      (codes "seq" ∷ codes "day" ∷ codes "sort" ∷ codes "pence" ∷ codes "number" ∷ [])
  pub extensions_range_is : Asks (with_indexes more) READ_EXTENSIONS_RANGE.now
      (few_of_table most_page_rows extensions_tree range_tests three_range_shows (by_columns 2 3))
      (codes "place" ∷ codes "day" ∷ codes "until_day" ∷ codes "number" ∷ [])
  pub bookings_range_is : Asks (with_indexes more) READ_BOOKINGS_RANGE.now
      (few_of_table most_page_rows bookings_tree range_tests three_range_shows (by_column 2))
      (codes "day" ∷ codes "slot" ∷ codes "state" ∷ codes "number" ∷ [])

pub texts : (more : List Index) → Texts more
unfolding understood everything
texts more = record {
  head_is = (refl, refl, (refl, refl));
  entries_is = (refl, refl, (refl, refl));
  terms_is = (refl, refl, (refl, refl));
  pledge_is = (refl, refl, (refl, refl));
  credit_is = (refl, refl, (refl, refl));
  secrets_is = (refl, refl, (refl, refl));
  booking_is = (refl, refl, (refl, refl));
  totals_is = (refl, refl, (refl, refl));
  extensions_is = (refl, refl, (refl, refl));
  ref_is = (refl, refl, (refl, refl));
  confirmed_is = (refl, refl, (refl, refl));
  next_is = (refl, refl, (refl, refl));
  from_is = (refl, refl, (refl, refl));
  rows_is = (refl, refl, (refl, refl));
  entry_is = (refl, refl, (refl, refl));
  secret_is = (refl, refl, (refl, refl));
  extension_is = (refl, refl, (refl, refl));
  last_seq_is = (refl, refl, (refl, refl));
  last_secret_is = (refl, refl, (refl, refl));
  last_place_is = (refl, refl, (refl, refl));
  secrets_page_is = (refl, refl, (refl, refl));
  extensions_page_is = (refl, refl, (refl, refl));
  asked_is = (refl, refl, (refl, refl));
  ends_is = (refl, refl, (refl, refl));
  windows_is = (refl, refl, (refl, refl));
  confirmed_page_is = (refl, refl, (refl, refl));
  asked_page_is = (refl, refl, (refl, refl));
  ends_page_is = (refl, refl, (refl, refl));
  pledges_range_is = (refl, refl, (refl, refl));
  secrets_range_is = (refl, refl, (refl, refl));
  entries_range_is = (refl, refl, (refl, refl));
  extensions_range_is = (refl, refl, (refl, refl));
  bookings_range_is = (refl, refl, (refl, refl));
}
