-- What the proofs of writes use, gathered in one place.
pub use Rattle.pawn_saving.specs.Common.{put_from, with_change, with_rows}
pub use Rattle.pawn_tables.specs.Common.{Rates, get, pledge_in, rows, state}
pub use Rattle.pawn_tables.specs.Rows.{booking_cells, entry_cells, extension_cells, number, placed_from, secret_cells}
pub use Rattle.pawn_tables.specs.Rows.{terms_cells, under}
pub use Rattle.pawn_tables.specs.Schema.{bookings_tree, entries_tree, pledges_tree, secrets_tree, terms_tree}
pub use Rattle.pawn_tables.specs.Schema.{totals_tree}
pub use Rattle.std.proofs.Common.{None, Some, [], ap, arith, length, length-append, map, refl, rules, subst, sym, take}
pub use Rattle.std.proofs.Common.{true, ℕ, ◌++◌, ◌+◌, ◌<◌, ◌^◌, ◌∙◌, ◌∷◌, ◌≡◌, ◌≤◌, take_all}
