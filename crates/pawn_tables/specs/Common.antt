-- Re-exports the definitions of other crates that this crate's contracts use for tables, rows and hosts.
pub use Rattle.one_table.specs.Common.{Binary, Blob, Compare, Env, Eq, Equal, Greater, Int, Less, Null, Row, Schema}
pub use Rattle.one_table.specs.Common.{Table, Term, Text, Trees, Value, col, column, lit, op2}
pub use Rattle.one_table.specs.Lending.{IsLent, Lends, Rests}
pub use Rattle.one_table.specs.Listing.{Holds, Listed, Lists, columns_of}
pub use Rattle.pawn_base.specs.Lists.{Each}
pub use Rattle.pawn_base.specs.Text.{IsText}
pub use Rattle.pawn_book.specs.BookStep.{BookValue, book_head, pledge_from, pledge_in, with_reference}
pub use Rattle.pawn_book.specs.Bookings.{confirmed_count, is_asked, is_confirmed, is_confirmed_for}
pub use Rattle.pawn_book.specs.HostStep.{Host, rows}
pub use Rattle.pawn_book.specs.Keeping.{HasTermsOf, IsNextBook, Keeping, WholeIsSound, entries_of, extensions_of}
pub use Rattle.pawn_book.specs.Keeping.{number_of, pledges_of, secrets_of, terms_of}
pub use Rattle.pawn_book.specs.Limits.{IsCapacity, most_name_bytes}
pub use Rattle.pawn_book.specs.Rows.{AreNumberedFrom, IsUnder, is_same_text, terms_at}
pub use Rattle.pawn_book.specs.Sheet.{part_item, part_items}
pub use Rattle.pawn_book.specs.Sound.{HasUnsoundBook, IsSound, IsSoundAt, IsSoundBook, IsUnsoundAt}
pub use Rattle.pawn_book.specs.TextsAndWords.{AreWords, HasTextsAndWords, IsWord}
pub use Rattle.pawn_book.specs.declared.change.Imported.{Imported}
pub use Rattle.pawn_book.specs.declared.fault.KeepError.{KeepError}
pub use Rattle.pawn_book.specs.declared.fault.StoreFault.TheVariants.{Database, NoRecord}
pub use Rattle.pawn_book.specs.declared.items.PledgeItem.{PledgeItem}
pub use Rattle.pawn_book.specs.declared.sheet.SheetPart.{SheetPart}
pub use Rattle.pawn_book.specs.declared.sheet.SheetItem.{SheetItem}
pub use Rattle.pawn_book.specs.declared.sheet.SheetItem.TheVariants.{Confirmed}
pub use Rattle.pawn_debt.specs.Due.{DebtValue, credit_of, last_of}
pub use Rattle.pawn_debt.specs.Kept.{totals_of}
pub use Rattle.pawn_debt.specs.declared.entry.Entry.{Entry}
pub use Rattle.pawn_debt.specs.declared.entry.Kind.{Kind}
pub use Rattle.pawn_debt.specs.declared.entry.Kind.TheVariants.{Fixed, Running}
pub use Rattle.pawn_debt.specs.declared.entry.Sort.{Sort}
pub use Rattle.pawn_debt.specs.declared.entry.Sort.TheVariants.{Draw, Repay}
pub use Rattle.pawn_debt.specs.declared.owing.Totals.{Totals}
pub use Rattle.pawn_pledge.specs.Brief.{IsBriefWithin, brief_of}
pub use Rattle.pawn_pledge.specs.Number.{IsNumber}
pub use Rattle.pawn_pledge.specs.Pledge.{PledgeValue, debt_of, end_of, last_element, last_secret, last_until}
pub use Rattle.pawn_pledge.specs.Pledge.{live_under}
pub use Rattle.pawn_pledge.specs.Replayable.{AreExtended, AreIssued, AreNumbered, IsBooked, IsClosed, IsReachable}
pub use Rattle.pawn_pledge.specs.declared.record.Booking.{Booking}
pub use Rattle.pawn_pledge.specs.declared.record.BookingState.{BookingState}
pub use Rattle.pawn_pledge.specs.declared.record.Closing.{Closing}
pub use Rattle.pawn_pledge.specs.declared.record.Closing.TheVariants.{Open, Redeemed, Sold}
pub use Rattle.pawn_pledge.specs.declared.record.Extension.{Extension}
pub use Rattle.pawn_pledge.specs.declared.record.Issue.{Issue}
pub use Rattle.pawn_pledge.specs.declared.record.Issued.{Issued}
pub use Rattle.pawn_terms.specs.Calendar.{IsDayNumber, IsRequestDay, later_of, six_months}
pub use Rattle.pawn_terms.specs.Terms.{IsChecked, rates_of}
pub use Rattle.pawn_terms.specs.declared.terms.Rates.{Rates}
pub use Rattle.sqlite.specs.Effect.{Database as Tables}
pub use Rattle.sqlite.specs.Held.{Held, state}
pub use Rattle.sqlite.specs.Ops.{from_truth, is_true}
pub use Rattle.sqlite.specs.State.{Executes, HasCleanDisk, Shown, State}
pub use Rattle.sqlite.specs.Tree.{IsAscending}
pub use Rattle.sqlite.specs.Values.{bound}
pub use Rattle.sqlite_schema.specs.declared.schema.Index.{Index}
pub use Rattle.sqlite_sql.specs.declared.ops.CompareOp.TheVariants.{Ge, Gt, Le, Lt}
pub use Rattle.std.specs.Cmp.{IsTotalOrder, nat_cmp_total, on_total}
pub use Rattle.std.specs.FinMap.{empty, entries, entries_sorted, find, find as find_key, get, get-entries, insert}
pub use Rattle.std.specs.FinMap.{is_sorted, nat_cmp-IsAntisymmetric, same_map}
pub use Rattle.std.specs.FinMap.Entries.{below_all}
pub use Rattle.std.specs.Int.{from_be_bytes, to_be_bytes, w128}
pub use Rattle.std.specs.List.{AllZip, cons_option, AllByRecursion, list_all, list_any}
pub use Rattle.std.specs.Ordering.{is_ge, is_gt, is_le, nat_cmp, ordering_reverse, ordering_then, eq_by_cmp, is_eq, is_lt}
unfoldable pub use Rattle.sqlite.specs.Listing.{understood}
unfoldable pub use Rattle.sqlite.specs.Ops.{binary}
unfoldable pub use Rattle.sqlite.specs.Order.{value_cmp}
unfoldable pub use Rattle.std.specs.List.{IsDistinct}
