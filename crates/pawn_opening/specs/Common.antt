-- Re-exports the definitions of other crates that this crate's contracts use.
pub use Rattle.one_table.specs.Columns.{no_schema}
pub use Rattle.one_table.specs.Common.{CompileError, Compiled, Database, Does, IsDatabase, Select, Tally}
pub use Rattle.one_table.specs.Listing.{IsNumbered, with_rows}
pub use Rattle.pawn_book.specs.Limits.{most_rows}
pub use Rattle.pawn_tables.specs.Common.{AllByRecursion, Executes, HasCleanDisk, Held, Holds, Host, Index, Int, IsLent}
pub use Rattle.pawn_tables.specs.Common.{Lends, Listed, Lists, Null, Row, Schema, State, Table, Term, Text, Trees, col}
pub use Rattle.pawn_tables.specs.Common.{column, columns_of, list_all, lit, op2, rows, state}
pub use Rattle.pawn_tables.specs.Meta.{notes, meta_row, meta_rows}
pub use Rattle.pawn_tables.specs.OneHost.{StandForOne}
pub use Rattle.pawn_tables.specs.Ours.{AreLoose, ListsOurs, with_indexes}
pub use Rattle.pawn_tables.specs.StandsFor.{HoldHost, StandsFor}
pub use Rattle.pawn_tables.specs.declared.texts.TheConstants.{PUT_NOTE, READ_SCHEMA}
pub use Rattle.sqlite.specs.Command.TheVariants.{CreateTable, Rows}
pub use Rattle.sqlite.specs.declared.error.Error.{Error}
pub use Rattle.sqlite.specs.declared.error.Error.TheVariants.{SqlInputError, SqliteFailure}
pub use Rattle.sqlite_catalog.specs.Change.{KeepsRows}
pub use Rattle.sqlite_disk.specs.Disk.{MoreFaults}
pub use Rattle.sqlite_disk.specs.declared.Disk.{Ghosts}
pub use Rattle.sqlite_disk.specs.declared.Files.{Files}
pub use Rattle.sqlite_store.specs.FileStore.{faults, is_shielded, recovers, view}
pub use Rattle.sqlite_store.specs.declared.store.FileStore.{FileStore}
pub use Rattle.sqlite_trees.specs.Objects.{catalog_tree}
pub use Rattle.sqlite_trees.specs.View.{IsClean, IsQuiet, doubt}
pub use Rattle.sqlite_wal.specs.Files.{image_at, outcomes}
pub use Rattle.sqlite_wal.specs.Recovery.{Image}
unfoldable pub use Rattle.pawn_tables.specs.Common.{understood, value_cmp}
unfoldable pub use Rattle.sqlite_tied.specs.Compute.{everything}
