-- What the proofs of reads use: words of rows and hosts, and lemmas on what a query shows.
pub use Rattle.pawn_tables.proofs.PledgeReads.{booking_shown, credit_shown, entries_shown, extensions_shown}
pub use Rattle.pawn_tables.proofs.PledgeReads.{pledge_shown, secrets_shown, terms_shown, totals_shown}
pub use Rattle.pawn_tables.proofs.PledgeSearches.{ref_shown}
pub use Rattle.pawn_tables.proofs.StatementFinds.{found, found_as, found_debts, found_is}
pub use Rattle.pawn_tables.specs.Common.{state, IsNextBook, IsWord, entries_of, extensions_of, get, pledge_in}
pub use Rattle.pawn_tables.specs.Common.{pledges_of, secrets_of}
pub use Rattle.std.proofs.Common.{Err, Ok, Some, ap, arith, length, map, refl, rules, subst, sym, ℕ, ◌+◌, ◌∙◌, ◌≡◌}
pub use Rattle.std.proofs.Common.{option_map}
