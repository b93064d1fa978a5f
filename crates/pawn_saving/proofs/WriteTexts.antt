-- What the texts of the changes mean.
pub use Rattle.pawn_tables.specs.declared.texts.TheConstants.{ADD_ROWS, PUT_BOOK, PUT_BOOKING, PUT_ENTRY, PUT_EXTENSION}
pub use Rattle.pawn_tables.specs.declared.texts.TheConstants.{PUT_PLEDGE, PUT_SECRET, PUT_TERMS, PUT_TOTALS, READ_LIMIT}
pub use Rattle.pawn_tables.specs.declared.texts.TheConstants.{SET_IMPORT, SET_PLEDGE, SET_PLEDGES_COUNT}
pub use Rattle.pawn_tables.specs.declared.texts.TheConstants.{SET_TERMS_COUNT, SET_TOTALS}
use Rattle.pawn_saving.proofs.Basics.{Puts, Returns, Sets}
use Rattle.pawn_saving.specs.Common.{Returning, Add, Arith, Is, Or, Not, InsertOr}
use Rattle.pawn_tables.proofs.Basics.{over_table, Asks, is_param}
use Rattle.pawn_tables.proofs.ReadTexts.{of_book}
use Rattle.pawn_tables.specs.Common.{Index, Compare, Eq, Binary, understood, Term, col, lit, op2, Int, Null, Text}
use Rattle.pawn_tables.specs.Ours.{with_indexes}
use Rattle.pawn_tables.specs.Schema.{bookings_tree, books_tree, meta_tree, pledges_tree, totals_tree}
use Rattle.sqlite.proofs.Callers.{IsPlain, command_of}
use Rattle.sqlite.specs.Source.TheVariants.{Values}
use Rattle.sqlite.specs.Term.{op1}
use Rattle.sqlite_schema.specs.declared.command.Conflict.TheVariants.{Abort}
use Rattle.sqlite_schema.specs.declared.command.Upsert.{Upsert}
use Rattle.sqlite_tied.specs.Compute.{everything}
use Rattle.std.proofs.Common.{◌≡◌, List, [], ◌∷◌, ℕ, pos, codes, Some, refl}

abbrev pub book_values : List Term
book_values = col 0 0 ∷ lit Null ∷ col 0 1 ∷ col 0 2 ∷ col 0 3 ∷ lit (Int (pos 0)) ∷ lit (Int (pos 0)) ∷ lit Null ∷ lit Null ∷ []

abbrev pub six_values : List Term
six_values = lit Null ∷ col 0 0 ∷ col 0 1 ∷ col 0 2 ∷ col 0 3 ∷ col 0 4 ∷ col 0 5 ∷ []

abbrev pub five_values : List Term
five_values = lit Null ∷ col 0 0 ∷ col 0 1 ∷ col 0 2 ∷ col 0 3 ∷ col 0 4 ∷ []

-- a column is other than a parameter
abbrev is_other : ℕ → ℕ → Term
is_other place param = op1 Not (op2 (Is Binary) (col 1 place) (col 0 param))

-- SQL's OR of terms
abbrev or_terms : Term → List Term → Term
or_terms t [] = t
or_terms t (u ∷ more) = or_terms (op2 Or t u) more

-- held, last_day, ends and the closing are all that changes of a row of a pledge the row is written where one of them is another
abbrev pub change_tests : List Term
change_tests = is_param 1 0 ∷ is_param 2 1 ∷ or_terms (is_other 11 2) (is_other 12 3 ∷ is_other 13 4 ∷ is_other 14 5 ∷ is_other 15 6 ∷ is_other 16 7 ∷ []) ∷ []

abbrev pub change_shows : List Term
change_shows = col 1 0 ∷ col 1 0 ∷ col 1 1 ∷ col 1 2 ∷ col 1 3 ∷ col 1 4 ∷ col 1 5 ∷ col 1 6 ∷ col 1 7 ∷ col 1 8 ∷ col 1 9 ∷ col 1 10 ∷ col 0 2 ∷ col 0 3
    ∷ col 0 4 ∷ col 0 5 ∷ col 0 6 ∷ col 0 7 ∷ []

abbrev pub totals_tests : List Term
totals_tests = is_param 1 0 ∷ is_param 2 1 ∷ or_terms (is_other 3 2) (is_other 4 3 ∷ is_other 5 4 ∷ []) ∷ []

abbrev pub totals_shows : List Term
totals_shows = col 1 0 ∷ col 1 0 ∷ col 1 1 ∷ col 1 2 ∷ col 0 2 ∷ col 0 3 ∷ col 0 4 ∷ []

-- the row that is there is found by its number, after the five parameters, and the columns that were to be put come after that
abbrev pub booking_tests : List Term
booking_tests = op2 (Compare Eq Binary) (col 1 0) (col 0 5) ∷ []

abbrev pub booking_shows : List Term
booking_shows = col 1 0 ∷ col 1 0 ∷ col 1 1 ∷ col 1 2 ∷ col 0 9 ∷ col 0 10 ∷ col 0 11 ∷ []

abbrev pub booking_clause : Upsert
booking_clause = record { target = Some (1 ∷ 2 ∷ []); update = Some (record { lets = []; body = over_table bookings_tree booking_tests booking_shows [] }) }

abbrev pub count_tests : List Term
count_tests = op2 (Compare Eq Binary) (col 1 1) (lit (Text (codes "rows"))) ∷ []

abbrev pub count_shows : List Term
count_shows = col 1 0 ∷ col 1 0 ∷ col 1 1 ∷ op2 (Arith Add) (col 1 2) (col 0 0) ∷ []

abbrev pub count_returns : Returning
count_returns = record { names = codes "value" ∷ []; row = Values (col 0 4 ∷ []) 1 }

abbrev pub limit_tests : List Term
limit_tests = op2 (Compare Eq Binary) (col 1 1) (lit (Text (codes "limit"))) ∷ []

abbrev pub limit_shows : List Term
limit_shows = col 1 2 ∷ []

abbrev pub sixteen_values : List Term
sixteen_values =
    lit Null ∷ col 0 0 ∷ col 0 1 ∷ col 0 2 ∷ col 0 3 ∷ col 0 4 ∷ col 0 5 ∷ col 0 6 ∷ col 0 7 ∷ col 0 8 ∷ col 0 9 ∷ col 0 10 ∷ col 0 11 ∷ col 0 12 ∷ col 0 13
    ∷ col 0 14 ∷ col 0 15 ∷ []

abbrev pub terms_count_shows : List Term
terms_count_shows = col 1 0 ∷ col 1 0 ∷ lit Null ∷ col 1 2 ∷ col 1 3 ∷ col 1 4 ∷ col 0 1 ∷ col 1 6 ∷ col 1 7 ∷ col 1 8 ∷ []

abbrev pub pledges_count_shows : List Term
pledges_count_shows = col 1 0 ∷ col 1 0 ∷ lit Null ∷ col 1 2 ∷ col 1 3 ∷ col 1 4 ∷ col 1 5 ∷ col 0 1 ∷ col 1 7 ∷ col 1 8 ∷ []

abbrev pub import_shows : List Term
import_shows = col 1 0 ∷ col 1 0 ∷ lit Null ∷ col 1 2 ∷ col 1 3 ∷ col 1 4 ∷ col 0 1 ∷ col 0 2 ∷ col 0 3 ∷ col 0 2 ∷ []

-- what each text means, whatever indexes the tables have
pub record Texts (more : List Index) : Type 0 where
  pub book_is : Puts (with_indexes more) PUT_BOOK.now 0 book_values 9
  pub entry_is : Puts (with_indexes more) PUT_ENTRY.now 3 six_values 7
  pub secret_is : Puts (with_indexes more) PUT_SECRET.now 4 six_values 7
  pub extension_is : Puts (with_indexes more) PUT_EXTENSION.now 8 five_values 6
  pub change_is : Sets (with_indexes more) SET_PLEDGE.now 2 (over_table pledges_tree change_tests change_shows [])
  pub totals_is : Sets (with_indexes more) SET_TOTALS.now 7 (over_table totals_tree totals_tests totals_shows [])
  pub booking_is : (command_of (understood (with_indexes more) PUT_BOOKING.now) ≡ InsertOr 5 Abort (Values five_values 6) (booking_clause ∷ []))
      × IsPlain (understood (with_indexes more) PUT_BOOKING.now)
  pub count_is : Returns (with_indexes more) ADD_ROWS.now 6 (over_table meta_tree count_tests count_shows []) count_returns
  pub limit_is : Asks (with_indexes more) READ_LIMIT.now (over_table meta_tree limit_tests limit_shows []) (codes "value" ∷ [])
  pub terms_is : Puts (with_indexes more) PUT_TERMS.now 1 five_values 6
  pub new_totals_is : Puts (with_indexes more) PUT_TOTALS.now 7 five_values 6
  pub pledge_is : Puts (with_indexes more) PUT_PLEDGE.now 2 sixteen_values 17
  pub terms_count_is : Sets (with_indexes more) SET_TERMS_COUNT.now 0 (over_table books_tree of_book terms_count_shows [])
  pub pledges_count_is : Sets (with_indexes more) SET_PLEDGES_COUNT.now 0 (over_table books_tree of_book pledges_count_shows [])
  pub import_is : Sets (with_indexes more) SET_IMPORT.now 0 (over_table books_tree of_book import_shows [])

pub texts : (more : List Index) → Texts more
unfolding understood everything
texts more = record {
  book_is = (refl, (refl, refl));
  entry_is = (refl, (refl, refl));
  secret_is = (refl, (refl, refl));
  extension_is = (refl, (refl, refl));
  change_is = (refl, (refl, refl));
  totals_is = (refl, (refl, refl));
  booking_is = (refl, (refl, refl));
  count_is = (refl, refl, refl);
  limit_is = (refl, refl, (refl, refl));
  terms_is = (refl, (refl, refl));
  new_totals_is = (refl, (refl, refl));
  pledge_is = (refl, (refl, refl));
  terms_count_is = (refl, (refl, refl));
  pledges_count_is = (refl, (refl, refl));
  import_is = (refl, (refl, refl));
}
