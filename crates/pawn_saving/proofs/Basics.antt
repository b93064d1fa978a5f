-- What these proofs use from elsewhere: the standard words and lemmas, those of the crates that this one depends on, and this crate's specs.
pub use Rattle.one_table.proofs.Alteration.{set_one, updated_part}
pub use Rattle.one_table.proofs.Insertion.{IsPlace, inserted, same_value, went}
pub use Rattle.one_table.proofs.Lent.{clean_before, lent_then}
pub use Rattle.one_table.proofs.OneTable.{shows_of}
pub use Rattle.one_table.proofs.Rowed.{at_place, carried, cast_int, cast_null, cast_whole, plainly, same_tree, swapped}
pub use Rattle.one_table.proofs.Texts.{Puts, Returns, Sets}
pub use Rattle.pawn_book.proofs.RowSums.{part, rows-with_book}
pub use Rattle.pawn_book.proofs.Sounds.{get-with_book, reachable_at}
pub use Rattle.pawn_tables.proofs.PledgeReads.{number_in, one_mapped, under_booked}
pub use Rattle.pawn_tables.proofs.RowsUnderKey.{AreUnder, both_pass, equals, of_one_book, of_one_pledge, rows_at}
pub use Rattle.pawn_tables.proofs.RowsUnderKey.{truth_of, all_under, is_passed}
pub use Rattle.sqlite_trees.proofs.ListLemmas.{IsPermutation-flat_map, IsPermutation-same}
pub use Rattle.std.proofs.lemmas.List.{map-append, nil_from_length, take_more}
pub use Rattle.std.proofs.lemmas.List.Sorted.{IsPermutation-append, IsPermutation-append_comm, IsPermutation-cons}
pub use Rattle.std.proofs.lemmas.List.Sorted.{IsPermutation-refl}
