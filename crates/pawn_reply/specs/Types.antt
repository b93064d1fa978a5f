-- Re-exports the declared types of this crate.
pub use Rattle.pawn_reply.specs.declared.detail.Detail.{Detail}
pub use Rattle.pawn_reply.specs.declared.detail.Detail.TheVariants.{Row, Total}
pub use Rattle.pawn_reply.specs.declared.fault.HeadFault.{HeadFault}
pub use Rattle.pawn_reply.specs.declared.fault.WireFault.{WireFault}
pub use Rattle.pawn_reply.specs.declared.fault.WireFault.TheVariants.{BadBody, BadKey, BadReceipt, Csv, Memory}
pub use Rattle.pawn_reply.specs.declared.fault.WireFault.TheVariants.{NoReceipt, NoRoute, TooManyReceipts, WrongMethod}
pub use Rattle.pawn_reply.specs.declared.reply.Out.{Out}
