-- Re-exports the definitions of other crates that this crate's contracts use.
pub use Rattle.one_table.specs.Common.{Chosen, Database, Does, Enforced, Given, InsertOr, Returning, Tally, Update}
pub use Rattle.one_table.specs.Common.{overlay, rowid, value_rows}
pub use Rattle.one_table.specs.Listing.{IsNumbered, with_rows}
pub use Rattle.pawn_book.specs.BookStep.{changed_book, filled_book, made_book, put_from}
pub use Rattle.pawn_book.specs.Changes.{CanSave, Continues, IsUnfilled, book_number, with_change}
pub use Rattle.pawn_book.specs.HostStep.{book_row_count, pledge_row_count, with_book}
pub use Rattle.pawn_book.specs.Sound.{AreSound, HasTextsAndWords}
pub use Rattle.pawn_book.specs.declared.change.Change.{Change}
pub use Rattle.pawn_book.specs.declared.change.Change.TheVariants.{AddTerms, ImportBook, MakeBook, PutPledge}
pub use Rattle.pawn_book.specs.declared.fault.SaveError.{SaveError}
pub use Rattle.pawn_book.specs.declared.request.NewBook.{NewBook}
pub use Rattle.pawn_book.specs.declared.book_rows.BookRows.{BookRows}
pub use Rattle.pawn_pledge.specs.Growth.{Grows}
pub use Rattle.pawn_pledge.specs.declared.record.Agreement.{Agreement}
pub use Rattle.pawn_tables.specs.Ours.{AreLoose, ListsOurs}
pub use Rattle.sqlite.specs.Cast.{cast, cast_row}
pub use Rattle.sqlite.specs.Edit.{Applies, edit_of, with_rowid}
pub use Rattle.sqlite.specs.Kind.TheVariants.{Blob as BlobKind, Integer}
pub use Rattle.sqlite_sql.specs.declared.ops.ArithOp.TheVariants.{Add}
pub use Rattle.sqlite_sql.specs.declared.ops.BinaryOp.TheVariants.{Arith, Is, Or}
pub use Rattle.sqlite_sql.specs.declared.ops.UnaryOp.TheVariants.{Not}
