-- Re-exports the declared types of this crate.
pub use Rattle.pawn_csv.specs.declared.exporting.RowWriter.{RowWriter}
pub use Rattle.pawn_csv.specs.declared.fault.Cause.{Cause}
pub use Rattle.pawn_csv.specs.declared.order.RawPledge.{RawPledge}
pub use Rattle.pawn_csv.specs.declared.row.ClosingWord.{ClosingWord}
pub use Rattle.pawn_csv.specs.declared.row.PledgeColumns.{PledgeColumns}
pub use Rattle.pawn_csv.specs.declared.row.Row.{Row}
pub use Rattle.pawn_csv.specs.declared.row.TheConstants.{COLUMNS, NUMBERS_END}
pub use Rattle.pawn_csv.specs.declared.row.Version.{Version}
pub use Rattle.pawn_csv.specs.declared.row_writing.Sink.{Sink}
