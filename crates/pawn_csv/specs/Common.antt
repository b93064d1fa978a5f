-- Names from other crates that many files of this crate use.
pub use Rattle.csv.specs.Machine.{Read}
pub use Rattle.csv.specs.Reading.{AreRecords, ExplainsRead, NextIs, ReadRecord, ReadsNext, default_config, error_kind}
pub use Rattle.csv.specs.Reading.{pending_of, source_of}
pub use Rattle.csv.specs.Records.{fields_of}
pub use Rattle.csv.specs.Writing.{default_writer, read_back, row_text}
pub use Rattle.csv.specs.declared.error.ErrorKind.{ErrorKind}
pub use Rattle.csv.specs.declared.parser.State.{State}
pub use Rattle.pawn_base.specs.Lists.{DoNotFall, Each, last_by}
pub use Rattle.pawn_book.specs.BookStep.{BookValue, book_head, pledge_from, pledge_in, rows_of_book}
pub use Rattle.pawn_book.specs.HostStep.{Host}
pub use Rattle.pawn_book.specs.Keeping.{GoesOn, IsQuiet, IsSteady, OfHost, Reads, entries_of, extensions_of, pledges_of}
pub use Rattle.pawn_book.specs.Keeping.{secrets_of, terms_of}
pub use Rattle.pawn_book.specs.Limits.{most_pledges, most_terms}
pub use Rattle.pawn_book.specs.Rows.{AreNumberedFrom, AreReplayable, IsUnder, terms_at}
pub use Rattle.pawn_book.specs.Sound.{IsSound}
pub use Rattle.pawn_book.specs.Visits.{End, Front, Handed, IsShare, Whole, call_end}
pub use Rattle.pawn_book.specs.TextsAndWords.{AreWords, HasTextsAndWords, IsWord}
pub use Rattle.pawn_book.specs.declared.fault.KeepError.{KeepError}
pub use Rattle.pawn_book.specs.declared.book_rows.BookRows.{BookRows}
pub use Rattle.pawn_book.specs.declared.visit.Flow.{Flow}
pub use Rattle.pawn_book.specs.declared.visit.Flow.TheVariants.{Go, Stop}
pub use Rattle.pawn_debt.specs.Due.{AreOrdered, DebtValue, Due, credit_of, due, last_of}
pub use Rattle.pawn_debt.specs.Limits.{most_entries, most_pence}
pub use Rattle.pawn_debt.specs.Words.{sort_text}
pub use Rattle.pawn_debt.specs.declared.entry.Entry.{Entry}
pub use Rattle.pawn_debt.specs.declared.entry.Kind.{Kind}
pub use Rattle.pawn_debt.specs.declared.entry.Kind.TheVariants.{Fixed, Running}
pub use Rattle.pawn_debt.specs.declared.entry.Sort.{Sort}
pub use Rattle.pawn_debt.specs.declared.entry.Sort.TheVariants.{Draw, Repay}
pub use Rattle.pawn_pledge.specs.Brief.{brief_of}
pub use Rattle.pawn_pledge.specs.Limits.{most_extensions, most_secrets}
pub use Rattle.pawn_pledge.specs.Number.{IsNumber}
pub use Rattle.pawn_pledge.specs.Pledge.{PledgeValue, debt_of, end_with, total_on}
pub use Rattle.pawn_pledge.specs.Replayable.{AreExtended, AreIssued, AreNumbered, IsBooked, IsClosed, IsOpening}
pub use Rattle.pawn_pledge.specs.Replayable.{IsReachable}
pub use Rattle.pawn_pledge.specs.Secret.{secret_of_text, secret_text}
pub use Rattle.pawn_pledge.specs.Words.{state_text}
pub use Rattle.pawn_pledge.specs.declared.brief.BriefFields.{BriefFields}
pub use Rattle.pawn_pledge.specs.declared.record.Booking.{Booking}
pub use Rattle.pawn_pledge.specs.declared.record.Closing.{Closing}
pub use Rattle.pawn_pledge.specs.declared.record.Extension.{Extension}
pub use Rattle.pawn_pledge.specs.declared.record.Issue.{Issue}
pub use Rattle.pawn_pledge.specs.declared.record.Issued.{Issued}
pub use Rattle.pawn_pledge.specs.declared.record.Opening.{Opening}
pub use Rattle.pawn_pledge.specs.declared.record.Standing.{Standing}
pub use Rattle.pawn_terms.specs.declared.terms.Rates.{Rates}
pub use Rattle.pawn_writing.specs.declared.fault.ViewFault.{ViewFault}
pub use Rattle.std.specs.FinMap.{get}
pub use Rattle.std.specs.List.{flat_map}
pub use Rattle.std.specs.Prelude.{IfErr, IfOk, IfSome, ℕ}
pub use Rattle.std.specs.Str.{IsUtf8}
unfoldable pub use Rattle.csv.specs.Machine.{next_record}
unfoldable pub use Rattle.csv.specs.Reading.{Reached, strip_bom}
unfoldable pub use Rattle.csv.specs.Records.{field_at}
unfoldable pub use Rattle.csv.specs.Writing.{escaped, fields_text, is_blank}
