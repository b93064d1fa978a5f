-- Re-exports the library's definitions of tables, and of what statements do to them.
pub use Rattle.sqlite.specs.Collation.TheVariants.{Binary}
pub use Rattle.sqlite.specs.Command.TheVariants.{Insert, InsertOr, Select, Update}
pub use Rattle.sqlite.specs.Does.{Does, Tally}
pub use Rattle.sqlite.specs.Effect.{Database, IsDatabase, value_rows}
pub use Rattle.sqlite.specs.Order.{Row, column, value_cmp}
pub use Rattle.sqlite.specs.Program.{overlay}
pub use Rattle.sqlite.specs.Rowids.TheVariants.{Chosen, Given}
pub use Rattle.sqlite.specs.Schema.{Schema}
pub use Rattle.sqlite.specs.Source.TheVariants.{Values}
pub use Rattle.sqlite.specs.Table.{Table}
pub use Rattle.sqlite.specs.Term.{Env, Term, col, eval_all, holds, lit, op2}
pub use Rattle.sqlite.specs.Tree.{IsTable, Trees, has_rowid, put_row, rowid, without_rowid}
pub use Rattle.sqlite.specs.View.{is_int}
pub use Rattle.sqlite.specs.declared.types.Value.{Value}
pub use Rattle.sqlite.specs.declared.types.Value.TheVariants.{Blob, Int, Null, Real, Text}
pub use Rattle.sqlite_resolve.specs.declared.compiled.Compiled.{Compiled}
pub use Rattle.sqlite_resolve.specs.declared.error.CompileError.{CompileError}
pub use Rattle.sqlite_schema.specs.declared.command.Returning.{Returning}
pub use Rattle.sqlite_schema.specs.declared.schema.Keys.TheVariants.{Enforced}
pub use Rattle.sqlite_sql.specs.declared.ops.BinaryOp.TheVariants.{Compare}
pub use Rattle.sqlite_sql.specs.declared.ops.CompareOp.TheVariants.{Eq}
pub use Rattle.sqlite_value.specs.declared.keys.Key.{Key}
pub use Rattle.std.specs.declared.cmp.Ordering.{Ordering}
pub use Rattle.std.specs.declared.cmp.Ordering.TheVariants.{Equal, Greater, Less}
