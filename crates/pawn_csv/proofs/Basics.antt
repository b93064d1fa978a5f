-- Names from the standard library and from other crates that the proofs of this crate use.
pub use Rattle.pawn_base.proofs.ListLemmas.{Each-push, last_by-le, take_each}
pub use Rattle.pawn_book.proofs.Reading.{reads_as, reads_both, reads_then}
pub use Rattle.pawn_book.proofs.Sounds.{reachable_at}
pub use Rattle.pawn_pledge.proofs.TextLemmas.{secret_texts_read_back}
pub use Rattle.pawn_writing.proofs.ShareLemmas.{PutsInTurn, share_all, share_front, share_more, share_puts, share_then}
pub use Rattle.std.proofs.Common.{Bool, Err, IfErr, IfNone, IfOk, IfSome, IsOk, List, None, Ok, Option, Result, Some}
pub use Rattle.std.proofs.Common.{[], ap, append-nil, append_assoc, arith, codes, cond, decimal, drop, ext_get_or}
pub use Rattle.std.proofs.Common.{false, get_or, if◌then◌else◌, inl, inr, length, length-append, map, nat_eq, nat_le}
pub use Rattle.std.proofs.Common.{nat_lt, not, option_map, refl, replicate, rules, set, slice_get, subst, suc, sym}
pub use Rattle.std.proofs.Common.{take, true, unwrap_or, zero, ℕ, ◌&&◌, ◌*◌, ◌++◌, ◌+◌, ◌-◌, ◌<◌, ◌==◌, ◌^◌, ◌||◌, ◌∙◌}
pub use Rattle.std.proofs.Common.{◌∷◌, ◌≡◌, ◌≢◌, ◌≤◌, ◌⊎◌}
pub use Rattle.std.proofs.lemmas.Bool.{and_from, and_parts, or_from}
pub use Rattle.std.proofs.lemmas.Bool.Decides.{nat_tests}
pub use Rattle.std.proofs.lemmas.Grind.{flat_map-append}
