-- What these proofs use from elsewhere: the standard words and lemmas, those of the crates that this one depends on, and this crate's specs.
pub use Rattle.one_table.proofs.Lent.{clean_before, lent_then, rests_then}
pub use Rattle.pawn_base.proofs.ListLemmas.{Each-push, take_next, take_past}
pub use Rattle.pawn_base.proofs.TestLemmas.{below, both_told, same_key}
pub use Rattle.pawn_book.proofs.Places.{pledge_at}
pub use Rattle.pawn_book.specs.Rows.{terms_at}
pub use Rattle.pawn_move.specs.declared.fault.MoveFault.{MoveFault}
pub use Rattle.pawn_move.specs.declared.fault.MoveFault.TheVariants.{Damaged, Memory, NewerSchema, NotOurs, Store}
pub use Rattle.pawn_saving.proofs.Hosting.{as_lists, as_stands, relisted_by}
pub use Rattle.pawn_saving.proofs.OurTables.{row_set_alone, with_tables}
pub use Rattle.pawn_saving.proofs.RowsInOrder.{carried_none, carried_then, was_clean}
pub use Rattle.pawn_tables.specs.declared.credits.Credit.{Credit}
pub use Rattle.pawn_terms.specs.declared.terms.Rates.{Rates}
