-- What the proofs use of the functions that read a row's columns, or a list of rows.
pub use Rattle.pawn_tables.proofs.ListsOfRows.{AreReadTo, added_more, always_all, always_read, each_any, err_finds}
pub use Rattle.pawn_tables.proofs.ListsOfRows.{finds_failed, first_err, first_err_of, kept_less}
pub use Rattle.pawn_tables.proofs.ListsOfRows.{first_of, mapped, placed_err, placed_more, placed_whole, read_other}
pub use Rattle.pawn_tables.proofs.ListsOfRows.{read_part}
pub use Rattle.pawn_tables.proofs.RowCells.{cell_at}
pub use Rattle.pawn_tables.specs.Common.{Text, Entry, Extension, IsDayNumber, IsNumber, IsWord, Issued, credit_of}
pub use Rattle.pawn_tables.specs.Common.{debt_of, end_of, last_secret, live_under}
pub use Rattle.pawn_tables.specs.Entries.{IsEntryDecodable}
pub use Rattle.pawn_tables.specs.Heads.{most_counted, number_cells}
pub use Rattle.pawn_tables.specs.Lines.{IsLineOf, line_cells}
pub use Rattle.pawn_tables.specs.declared.line.Line.{Line}
pub use Rattle.std.proofs.Common.{Err, [], ap, arith, length, min, refl, rules, sym, ℕ, ◌<◌, ◌∙◌, ◌≡◌}
pub use Rattle.std.specs.Prelude.{⊤}
