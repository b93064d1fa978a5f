-- What an export writes and answers.
use Rattle.pawn_book.specs.declared.items.PledgeItem.{PledgeItem}
use Rattle.pawn_book.specs.declared.items.RowItem.{RowItem}
use Rattle.pawn_csv.specs.Common.{Flow, Go, Host, KeepError, Stop, ViewFault, Whole, get, rows_of_book}
use Rattle.pawn_csv.specs.Rows.{closing_amount, closing_day, closing_word, csv_of}
use Rattle.pawn_csv.specs.Sent.{PutsRow, has_ended, text_of_row, seen}
use Rattle.pawn_csv.specs.Types.{PledgeColumns, Row, RowWriter, Sink}
use Rattle.pawn_writing.specs.Ends.{PutFront, Written, write_failed}
use Rattle.pawn_writing.specs.Fault.{view_fault}
use Rattle.std.specs.Prelude.{◌≡◌, ℕ, Bool, true, false, if◌then◌else◌, List, [], Option, Some}
use Rattle.std.specs.Prelude.{None, option_map, unwrap_or, Result, Ok, Err}

-- the columns of a pledge's own row
abbrev pub item_columns : PledgeItem → PledgeColumns
item_columns q = record {
  number = q.number;
  opening = q.opening;
  taken = q.taken;
  version = q.version;
  held = q.held;
  last = q.last;
  closing = closing_word q.closing;
  closing_day = closing_day q.closing;
  amount = closing_amount q.closing;
}

-- a row of a pledge, as a row of a book's text
abbrev pub csv_row : RowItem → Row
csv_row (RowItem.Pledge pledge) = Row.Pledge (item_columns pledge)
csv_row (RowItem.Secret number place issued) = Row.Secret number place issued
csv_row (RowItem.Entry number entry) = Row.Entry number entry
csv_row (RowItem.Extension number place extension) = Row.Extension number place extension
csv_row (RowItem.Booking number booking) = Row.Booking number booking

-- a row writer as a visitor: it writes the row, and stops once a row was not written completely
pub record PutsRowItem {W : Type 0} (contents : W → Option (List ℕ)) (v : RowWriter W) (item : RowItem) (flow : Flow) (w : RowWriter W) : Type 0 where
  pub puts : PutsRow contents v.sink (text_of_row (csv_row item)) w.sink
  pub flow_is : flow ≡ (if has_ended w.sink then Stop else Go)

-- the text of a book, if the host has the book
abbrev pub text_of : Host → ℕ → Option (List ℕ)
text_of h book = option_map (λ at. csv_of (rows_of_book at)) (get h.books book)

-- how an export ends: it depends on the keeper's last answer, on whether the writer failed, and on whether memory ran
-- out for a row
abbrev pub result_of_export : Result (Unit {0}) KeepError → Bool → Bool → Result (Unit {0}) ViewFault
result_of_export done true starved = Err ViewFault.Write
result_of_export done false true = Err ViewFault.Memory
result_of_export (Ok u) false false = Ok u
result_of_export (Err error) false false = Err (view_fault error)

-- how an export to this sink ends
abbrev pub sink_result : {W : Type 0} → Result (Unit {0}) KeepError → Sink W → Result (Unit {0}) ViewFault
sink_result done sink = result_of_export done (write_failed sink.writer) sink.is_starved

-- The whole text was written, or there is a reason why not. With `Unknown` nothing was written, and there is no such
-- book. With any other reason a prefix of the text was written.
abbrev pub Exports : {W U : Type 0} → (W → Option (List ℕ)) → Sink W → Option (List ℕ) → Result U ViewFault → Sink W → Type 0
Exports contents old text (Ok u) new = (t : List ℕ) × (text ≡ Some t) × Written contents (seen old) t Whole (seen new)
Exports contents old text (Err ViewFault.Write) new =
    (t : List ℕ) × (text ≡ Some t) × PutFront contents (seen old) t (seen new) × (write_failed new.writer ≡ true)
Exports contents old text (Err ViewFault.Memory) new = PutFront contents (seen old) (unwrap_or text []) (seen new) × (write_failed new.writer ≡ false)
Exports contents old text (Err ViewFault.Store) new = PutFront contents (seen old) (unwrap_or text []) (seen new) × (write_failed new.writer ≡ false)
Exports contents old text (Err ViewFault.Unknown) new = (text ≡ None) × (new ≡ old)
