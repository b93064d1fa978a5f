-- What these proofs use from elsewhere: the standard words and lemmas, those of the crates that this one depends on, and this crate's specs.
pub use Rattle.one_table.proofs.Insertion.{IsPlace, inserted, same_value, went}
pub use Rattle.one_table.proofs.Lent.{clean_before, lent_then}
