-- Names from other crates that many files of this crate use.
pub use Rattle.httparse.specs.Spans.{AreFieldsAt, IsHeaderWithin, IsRequestAt, RequestOverflows, header_bytes}
pub use Rattle.httparse.specs.Spans.{name_and_value, span_bytes}
pub use Rattle.httparse.specs.declared.spans.HeaderSpan.{HeaderSpan}
pub use Rattle.httparse.specs.declared.spans.RequestSpans.{RequestSpans}
pub use Rattle.matchit.specs.Params.{Shows, part_of, walk}
pub use Rattle.pawn_base.specs.Refusals.{first_of}
pub use Rattle.pawn_base.specs.Text.{IsText, is_text}
pub use Rattle.pawn_book.specs.Limits.{AreFew, IsCapacity}
pub use Rattle.pawn_book.specs.declared.limits.TheConstants.{MOST_BOOKINGS, MOST_NAME_BYTES, MOST_RECEIPTS}
pub use Rattle.pawn_book.specs.declared.request.BrokerRequest.TheVariants.{Import, PutTerms, TakePledge}
pub use Rattle.pawn_book.specs.declared.request.Caller.TheVariants.{Viewer, Bearer, Broker, Operator}
pub use Rattle.pawn_book.specs.declared.request.NewBook.{NewBook}
pub use Rattle.pawn_book.specs.declared.request.Request.{Request}
pub use Rattle.pawn_book.specs.declared.book_rows.BookRows.{BookRows}
pub use Rattle.pawn_csv.specs.declared.fault.Cause.{Cause}
pub use Rattle.pawn_csv.specs.declared.fault.CsvFault.{CsvFault}
pub use Rattle.pawn_debt.specs.declared.entry.Kind.TheVariants.{Fixed, Running}
pub use Rattle.pawn_pledge.specs.Number.{IsNumber}
pub use Rattle.pawn_pledge.specs.Receipt.{IsReceiptText}
pub use Rattle.pawn_pledge.specs.Replayable.{IsOpening}
pub use Rattle.pawn_pledge.specs.Secret.{secret_of_text}
pub use Rattle.pawn_pledge.specs.declared.command.Command.{Command}
pub use Rattle.pawn_pledge.specs.declared.command.Decision.TheVariants.{Confirm, Refuse}
pub use Rattle.pawn_pledge.specs.declared.command.Paper.TheVariants.{Sworn, Written}
pub use Rattle.pawn_pledge.specs.declared.limits.TheConstants.{MOST_ARTICLE_BYTES, MOST_REFERENCE_BYTES}
pub use Rattle.pawn_pledge.specs.declared.receipt.Receipt.{Receipt}
pub use Rattle.pawn_pledge.specs.declared.record.Opening.{Opening}
pub use Rattle.pawn_terms.specs.Calendar.{Civil, IsRequestDay, IsWritable, civil_of, civil_text, day_number, day_text}
pub use Rattle.pawn_terms.specs.Calendar.{digit, first_day, last_request_day}
pub use Rattle.serde_json.specs.Data.{Data}
pub use Rattle.serde_json.specs.Read.{read}
pub use Rattle.serde_json.specs.View.{view}
pub use Rattle.std.specs.Borrow.{Bor}
pub use Rattle.std.specs.Char.{digit_value, is_ascii_digit}
pub use Rattle.std.specs.List.{after_first, before_first, cons_option, filter_map, list_all, list_any, position_or_len}
pub use Rattle.std.specs.Str.{IsAscii, str_eq_ignore_ascii_case}
pub use Rattle.std.specs.Str.Parse.{AllDigits, digits_value}
unfoldable pub use Rattle.pawn_terms.specs.Calendar.{civil_after, days_of_months, days_of_years}
unfoldable pub use Rattle.std.specs.Str.{chars, is_utf8}
