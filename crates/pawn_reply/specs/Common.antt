-- Names from other crates that many files of this crate use.
pub use Rattle.pawn_csv.specs.declared.fault.Cause.{Cause}
pub use Rattle.pawn_csv.specs.declared.fault.CsvFault.{CsvFault}
pub use Rattle.pawn_debt.specs.Words.{sort_text}
pub use Rattle.pawn_debt.specs.declared.entry.Entry.{Entry}
pub use Rattle.pawn_pledge.specs.Receipt.{receipt_text}
pub use Rattle.pawn_pledge.specs.Words.{state_text}
pub use Rattle.pawn_pledge.specs.declared.receipt.Receipt.{Receipt}
pub use Rattle.pawn_pledge.specs.declared.record.Booking.{Booking}
pub use Rattle.pawn_terms.specs.Calendar.{Civil, civil_of, civil_text, day_text}
pub use Rattle.serde_json.specs.Data.{Members, boolean, member, no_members, number, object, string, unsigned}
pub use Rattle.serde_json.specs.Written.{compact_text}
pub use Rattle.std.specs.List.{list_all}
pub use Rattle.std.specs.Str.{IsAscii}
