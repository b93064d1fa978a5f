-- Re-exports the definitions of other crates that many files of this crate use.
pub use Rattle.pawn_base.specs.Lists.{Each}
pub use Rattle.pawn_book.specs.BookStep.{BookValue, book_head, changed_book, filled_book, made_book, pledge_from}
pub use Rattle.pawn_book.specs.BookStep.{pledge_in, put_from, with_reference}
pub use Rattle.pawn_book.specs.Bookings.{confirmed_count, is_confirmed_for}
pub use Rattle.pawn_book.specs.Changes.{CanSave, Continues, Follows, book_number, with_change}
pub use Rattle.pawn_book.specs.HostStep.{Host, book_row_count, pledge_row_count, rows, with_book}
pub use Rattle.pawn_book.specs.Keeping.{IsNextBook, Keeping, Reads, entries_of, extensions_of, number_of, pledges_of}
pub use Rattle.pawn_book.specs.Keeping.{terms_of}
pub use Rattle.pawn_book.specs.Limits.{most_rows, most_terms}
pub use Rattle.pawn_book.specs.Rows.{AreReplayable, is_same_text, terms_at}
pub use Rattle.pawn_book.specs.Sheet.{asked_item, day_sheet, part_head, part_item, part_items, window_items}
pub use Rattle.pawn_book.specs.Sheet.{window_sheet, windows_below, windows_sheet, with_head}
pub use Rattle.pawn_book.specs.Visits.{Handed, HandsOver, IsShare, Visits, Whole}
pub use Rattle.pawn_book.specs.declared.change.Change.{Change}
pub use Rattle.pawn_book.specs.declared.change.Change.TheVariants.{AddTerms, ImportBook, MakeBook, PutPledge}
pub use Rattle.pawn_book.specs.declared.fault.SaveError.TheVariants.{Full, Memory, Store}
pub use Rattle.pawn_book.specs.declared.request.NewBook.{NewBook}
pub use Rattle.pawn_book.specs.declared.sheet.SheetItem.{SheetItem}
pub use Rattle.pawn_book.specs.declared.visit.Flow.{Flow}
pub use Rattle.pawn_book.specs.declared.visit.Flow.TheVariants.{Go, Stop}
pub use Rattle.pawn_pledge.specs.Brief.{brief_of}
pub use Rattle.pawn_pledge.specs.Pledge.{PledgeValue}
pub use Rattle.pawn_pledge.specs.Replayable.{IsReachable}
pub use Rattle.pawn_terms.specs.Terms.{IsChecked}
pub use Rattle.pawn_terms.specs.declared.terms.Rates.{Rates}
pub use Rattle.std.specs.List.{cons_option, flat_map}
pub use Rattle.std.specs.Ordering.{nat_cmp}
pub use Rattle.std.specs.Prelude.{List, ℕ}
