-- What these proofs use from elsewhere: the standard words and lemmas, those of the crates that this one depends on, and this crate's specs.
pub use Rattle.one_table.proofs.Lent.{lent_then}
pub use Rattle.one_table.proofs.OneTable.{around, few_of_table, first_of_table, gathered, over_table, passes, shows_of}
pub use Rattle.one_table.proofs.Texts.{Asks, by_column, by_column_down, is_param}
pub use Rattle.one_table.specs.Common.{overlay}
pub use Rattle.pawn_book.proofs.Sounds.{each_at}
pub use Rattle.pawn_tables.specs.declared.records.PledgeRow.{PledgeRow}
pub use Rattle.sqlite_trees.proofs.ListLemmas.{IsPermutation-filter, all-map, all_from_map, all_weaker}
pub use Rattle.sqlite_trees.proofs.ListLemmas.{ascending-filter, ascending-get_or, filter-map, filter_all, filter_none}
pub use Rattle.sqlite_trees.proofs.ListLemmas.{flat_map_none, map-map}
pub use Rattle.sqlite_value.proofs.OrderLemmas.{value_cmp-Int, value_cmp-Text, value_cmp_total}
pub use Rattle.std.proofs.lemmas.Bool.{and_left, and_right, cond-false, cond-true, cond_both}
pub use Rattle.std.proofs.lemmas.Bool.Decides.{nat_tests}
pub use Rattle.std.proofs.lemmas.List.{length-map, map-append, nil_from_length, take-map}
pub use Rattle.std.proofs.lemmas.List.Elements.{filter-append, filter_agree}
pub use Rattle.std.proofs.lemmas.List.Sorted.{IsPermutation-map, IsPermutation-sym, IsPermutation-trans}
pub use Rattle.std.proofs.lemmas.List.Sorted.{length_permutation}
