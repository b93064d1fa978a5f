-- Which book a text holds, or why it holds none.
use Rattle.pawn_csv.specs.Common.{AreRecords, AreReplayable, BookRows, Each, ErrorKind, HasTextsAndWords, Reached, Read}
use Rattle.pawn_csv.specs.Common.{State, default_config, next_record}
use Rattle.pawn_csv.specs.Finishing.{IsFinishedAs, IsOfNoBook}
use Rattle.pawn_csv.specs.Order.{Begun, accept, run, is_whole}
use Rattle.pawn_csv.specs.Rows.{FitsColumns, Knows, header, row_fields, book_csv_rows, version_rows}
use Rattle.pawn_csv.specs.Types.{Cause, Row, Version}
use Rattle.std.specs.Prelude.{◌≡◌, ◌≢◌, ◌⊎◌, ℕ, ◌+◌, nat_eq, Bool, true, false, List, [], ◌∷◌, length, map, Option}
use Rattle.std.specs.Prelude.{None, Some, Result, Ok, Err}

-- a book that a text of this version can hold: it is replayable, and each of its columns can be spelled
abbrev pub FitsVersion : Version → BookRows → Type 0
FitsVersion version k = AreReplayable k.terms k.pledges × Knows version k × Each FitsColumns (book_csv_rows version k)

-- a book that can be written: it is replayable, its texts are UTF-8, its secrets have 128 bits, and its days are those
-- of the calendar
pub record CanBeWritten (k : BookRows) : Type 0 where
  pub replayable : AreReplayable k.terms k.pledges
  pub texts_and_words : Each HasTextsAndWords k.pledges

-- the records of this text are those of the book, in one of the versions
abbrev pub IsTextOf : List ℕ → BookRows → Type 0
IsTextOf text k =
    (version : Version) × AreRecords default_config State.StartRecord text (version_rows version k) × FitsVersion version k

-- these columns spell this row
abbrev pub IsSpelled : List (List ℕ) → Row → Type 0
IsSpelled fields r = FitsColumns r × (fields ≡ row_fields r)

-- these columns spell no row
abbrev pub IsNoRow : List (List ℕ) → Type 0
IsNoRow fields = (r : Row) → FitsColumns r → fields ≡ row_fields r → ⊥

-- the columns spell a row that is refused at this place
abbrev pub IsRowRefused : List (List ℕ) → Option Begun → Cause → Type 0
IsRowRefused fields old c = (r : Row) × IsSpelled fields r × (accept old r ≡ Err c)

-- why a record after the header is not accepted: memory ran out, it has a different number of columns, its columns
-- spell no row, or the row is refused at this place
abbrev pub RefusesRow : List (List ℕ) → Option Begun → Cause → Type 0
RefusesRow fields old c =
    (c ≡ Cause.Memory)
    ⊎ (((c ≡ Cause.Csv) × (length fields ≢ length header))
    ⊎ (((c ≡ Cause.BadField) × (length fields ≡ length header) × IsNoRow fields)
    ⊎ IsRowRefused fields old c))

-- the effect of the next record: the first is the header, and each later one is a row
abbrev pub Taking : {U : Type 0} → Bool → List (List ℕ) → Option Begun → Result U Cause → Option Begun → Type 0
Taking true fields old (Ok u) new = (fields ≡ header) × (new ≡ old)
Taking true fields old (Err e) new = (fields ≢ header) × (e ≡ Cause.Columns)
Taking false fields old (Ok u) new = (r : Row) × (b : Begun) × IsSpelled fields r × (accept old r ≡ Ok b) × (new ≡ Some b)
Taking false fields old (Err e) new = RefusesRow fields old e

-- these records were accepted: the header, and these rows
abbrev pub AreTaken : List (List (List ℕ)) → List Row → Option Begun → Type 0
AreTaken [] rows s = (rows ≡ []) × (s ≡ None)
AreTaken (h ∷ rs) rows s = (h ≡ header) × (rs ≡ map row_fields rows) × Each FitsColumns rows × (run None rows ≡ Ok s)

-- why the end of the records is refused: rows are missing, or they make no replayable book
abbrev pub RefusesEnd : Option Begun → Cause → Type 0
RefusesEnd s Cause.Order = is_whole s ≡ false
RefusesEnd s Cause.NotReplayable = IsOfNoBook s
RefusesEnd s Cause.Memory = Unit {0}
RefusesEnd s _ = ⊥

-- a text without a record lacks the header
abbrev pub EndsReadingAs : List (List (List ℕ)) → Option Begun → Cause → Type 0
EndsReadingAs [] s c = c ≡ Cause.Columns
EndsReadingAs (h ∷ rs) s c = RefusesEnd s c

-- each record before this row is accepted: the header, and rows
pub record AreTakenBefore (text : List ℕ) (row : ℕ) : Type 0 where
  pub before : List (List (List ℕ))
  pub rows : List Row
  pub state : State
  pub rest : List ℕ
  pub begun : Option Begun
  pub reached : Reached default_config State.StartRecord text before state rest
  pub taken : AreTaken before rows begun
  pub place : length before + 1 ≡ row

-- each record before this one is accepted; this one, or the end of the text, is refused for this cause
pub record IsFirstCause (text : List ℕ) (c : Cause) (row : ℕ) : Type 0 where
  pub at : AreTakenBefore text row
  pub why : ((p : Read) × (next_record default_config at.state [] [] at.rest ≡ Some p)
      × Taking (nat_eq (length at.before) 0) p.0 at.begun (let r : Result (Unit {0}) Cause = Err c in r) at.begun)
      ⊎ ((next_record default_config at.state [] [] at.rest ≡ None) × EndsReadingAs at.before at.begun c)

-- `Memory` and `Read` may occur at any row after the rows before it were accepted; any other fault is the first of the
-- text
abbrev pub IsFaultOf : List ℕ → Cause → ℕ → Type 0
IsFaultOf text Cause.Memory row = AreTakenBefore text row
IsFaultOf text Cause.Read row = AreTakenBefore text row
IsFaultOf text c row = IsFirstCause text c row

-- the records of this text are accepted to their end, and make the book
abbrev pub IsReadAs : List ℕ → BookRows → Type 0
IsReadAs text k =
    (records : List (List (List ℕ))) × (rows : List Row) × (s : Option Begun) × AreRecords default_config State.StartRecord text records
    × AreTaken records rows s × IsFinishedAs s k

-- the cause for an error of the CSV reader; the reader is set up to accept any number of columns, so its errors are a
-- failed read or memory that ran out
abbrev pub CauseOf : ErrorKind → Cause → Type 0
CauseOf (ErrorKind.Io e) c = c ≡ Cause.Read
CauseOf ErrorKind.OutOfMemory c = c ≡ Cause.Memory
CauseOf other c = Unit {0}
