-- Laws of books' texts and of their rows.
use Rattle.pawn_csv.specs.Common.{BookRows, BookValue, Host, IsSound, get, rows_of_book, strip_bom}
use Rattle.pawn_csv.specs.Reading.{CanBeWritten, IsFirstCause, FitsVersion, IsReadAs, IsTextOf}
use Rattle.pawn_csv.specs.Rows.{FitsColumns, Knows, csv_of, row_fields}
use Rattle.pawn_csv.specs.Types.{Cause, Row, Version}
use Rattle.std.specs.Prelude.{◌≡◌, ◌≢◌, ℕ, List, Some}

-- a book that can be written is one that a text can hold, in each version whose rows can express all of the book
abbrev pub WritableBooksFit : Type 0
WritableBooksFit = (version : Version) (k : BookRows) → CanBeWritten k → Knows version k → FitsVersion version k

-- the text that is written for a book holds that book
abbrev pub TextsAreRead : Type 0
TextsAreRead = (k : BookRows) → CanBeWritten k → IsTextOf (strip_bom (csv_of k)) k

-- the text that is written for a book of a sound host holds that book
abbrev pub TextsOfHostsAreRead : Type 0
TextsOfHostsAreRead =
    (h : Host) (b : ℕ) (book : BookValue) → IsSound h → get h.books b ≡ Some book
    → IsTextOf (strip_bom (csv_of (rows_of_book book))) (rows_of_book book)

-- the records of a text that holds a book are accepted to their end, and make that book
abbrev pub TextsAreReadAs : Type 0
TextsAreReadAs = (text : List ℕ) (k : BookRows) → IsTextOf text k → IsReadAs text k

-- two rows with the same columns are equal
abbrev pub RowsHaveOneSpelling : Type 0
RowsHaveOneSpelling = (r s : Row) → FitsColumns r → FitsColumns s → row_fields r ≡ row_fields s → r ≡ s

-- a text has only one first fault, in one row
abbrev pub FirstFaultsAreOne : Type 0
FirstFaultsAreOne =
    (text : List ℕ) (c d : Cause) (m n : ℕ) → c ≢ Cause.Memory → d ≢ Cause.Memory
    → IsFirstCause text c m → IsFirstCause text d n → (c ≡ d) × (m ≡ n)

-- a text with a first fault holds no book
abbrev pub FirstFaultsExcludeBooks : Type 0
FirstFaultsExcludeBooks =
    (text : List ℕ) (c : Cause) (m : ℕ) (k : BookRows) → c ≢ Cause.Memory → IsFirstCause text c m → IsTextOf text k → ⊥

-- no text holds two books
abbrev pub TextsHoldOneBook : Type 0
TextsHoldOneBook = (text : List ℕ) (j k : BookRows) → IsTextOf text j → IsTextOf text k → j ≡ k
