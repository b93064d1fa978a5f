-- Names from other crates that many files of this crate use.
pub use Rattle.pawn_book.specs.BookStep.{BookValue, are_unknown, book_head, is_live, live_at, only_live, pledge_in}
pub use Rattle.pawn_book.specs.HostStep.{Host}
pub use Rattle.pawn_book.specs.Keeping.{HasTermsOf, IsSteady, Reads, entries_of, extensions_of, pledges_of}
pub use Rattle.pawn_book.specs.Sheet.{day_sheet}
pub use Rattle.pawn_book.specs.Sound.{IsSound}
pub use Rattle.pawn_book.specs.Visits.{End, Front, Handed, IsShare, Whole, call_end}
pub use Rattle.pawn_book.specs.declared.fault.KeepError.{KeepError}
pub use Rattle.pawn_book.specs.declared.sheet.SheetItem.{SheetItem}
pub use Rattle.pawn_book.specs.declared.sheet.SheetItem.TheVariants.{Asked, AskedHead, Confirmed, Ends, EndsHead}
pub use Rattle.pawn_book.specs.declared.sheet.SheetItem.TheVariants.{Window}
pub use Rattle.pawn_book.specs.declared.visit.Flow.{Flow}
pub use Rattle.pawn_debt.specs.Due.{AreOrdered, due, last_of}
pub use Rattle.pawn_debt.specs.Owing.{owing_of}
pub use Rattle.pawn_pledge.specs.Brief.{brief_of, brief_owing, brief_status}
pub use Rattle.pawn_pledge.specs.Pledge.{PledgeValue, debt_of, end_of, status_of}
pub use Rattle.pawn_pledge.specs.declared.brief.BriefFields.{BriefFields}
pub use Rattle.pawn_pledge.specs.declared.command.Command.{Command}
pub use Rattle.pawn_pledge.specs.declared.receipt.Receipt.{Receipt}
pub use Rattle.pawn_pledge.specs.declared.record.Closing.{Closing}
pub use Rattle.pawn_pledge.specs.declared.record.Closing.TheVariants.{Open, Redeemed, Sold}
pub use Rattle.pawn_terms.specs.Calendar.{day_text, digit}
pub use Rattle.pawn_terms.specs.Worked.{date}
pub use Rattle.pawn_writing.specs.Ends.{PutFront, Puts, PutsLine, PutsShare, Written, write_failed}
pub use Rattle.pawn_writing.specs.Fault.{IsQuietView, result_of_text}
pub use Rattle.pawn_writing.specs.declared.fault.ViewFault.{ViewFault}
pub use Rattle.pawn_writing.specs.declared.writing.Writing.{Writing}
pub use Rattle.std.specs.FinMap.{get}
pub use Rattle.std.specs.List.{flat_map}
unfoldable pub use Rattle.pawn_debt.specs.Due.{due_after}
unfoldable pub use Rattle.pawn_terms.specs.Calendar.{civil_after, days_of_months, days_of_years}
unfoldable pub use Rattle.std.specs.Fmt.{digits}
