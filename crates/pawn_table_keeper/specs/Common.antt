-- Re-exports the definitions of other crates that this crate's contracts use.
pub use Rattle.pawn_book.specs.Keeping.{Errs, Reads}
pub use Rattle.pawn_book.specs.Sheet.{day_sheet, part_head, window_items, window_sheet, windows, windows_below}
pub use Rattle.pawn_book.specs.Sheet.{windows_sheet, with_head}
pub use Rattle.pawn_book.specs.Visits.{Front, Handed, HandsOver, IsShare, Visits, Whole, call_end}
pub use Rattle.pawn_book.specs.declared.visit.Flow.{Flow}
pub use Rattle.pawn_book.specs.declared.visit.Flow.TheVariants.{Go, Stop}
pub use Rattle.pawn_tables.specs.Common.{Database, Held, IsSoundAt, IsUnsoundAt, KeepError, Keeping, NoRecord, SheetPart}
pub use Rattle.pawn_tables.specs.Common.{SheetItem, cons_option, part_item, part_items, pledges_of, BookValue}
pub use Rattle.pawn_tables.specs.Common.{HasCleanDisk, Host, PledgeValue, State, entries_of, extensions_of, get}
pub use Rattle.pawn_tables.specs.Common.{list_any, pledge_in, state}
pub use Rattle.pawn_tables.specs.Lines.{IsLinesPage, NamesWindows, item_of, items_past}
pub use Rattle.pawn_tables.specs.Pages.{page_end, most_page_rows}
pub use Rattle.pawn_tables.specs.Places.{page_behind}
pub use Rattle.pawn_tables.specs.StandsFor.{StandsFor}
pub use Rattle.std.specs.List.{filter_map, flat_map}
