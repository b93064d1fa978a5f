-- Re-exports the declared types of this crate and those of the faults of bytes.
pub use Rattle.pawn_reply.specs.declared.fault.HeadFault.{HeadFault}
pub use Rattle.pawn_reply.specs.declared.fault.WireFault.{WireFault}
pub use Rattle.pawn_reply.specs.declared.fault.WireFault.TheVariants.{BadBody, BadKey, BadReceipt, Csv, Memory}
pub use Rattle.pawn_reply.specs.declared.fault.WireFault.TheVariants.{NoReceipt, NoRoute, TooManyReceipts, WrongMethod}
pub use Rattle.pawn_wire.specs.declared.callers.Asks.{Asks}
pub use Rattle.pawn_wire.specs.declared.commands.NewBooking.{NewBooking}
pub use Rattle.pawn_wire.specs.declared.commands.NewEntry.{NewEntry}
pub use Rattle.pawn_wire.specs.declared.fields.Fields.{Fields}
pub use Rattle.pawn_wire.specs.declared.fields.Found.{Found}
pub use Rattle.pawn_wire.specs.declared.fields.Found.TheVariants.{Missing, One, Several}
pub use Rattle.pawn_wire.specs.declared.head.HeadFacts.{HeadFacts}
pub use Rattle.pawn_wire.specs.declared.target.BookTarget.{BookTarget}
pub use Rattle.pawn_wire.specs.declared.target.Target.{Target}
pub use Rattle.pawn_wire.specs.declared.target.Target.TheVariants.{Create, PutTerms, TakePledge, Show, OnPledge, ShowDay}
pub use Rattle.pawn_wire.specs.declared.target.Target.TheVariants.{Export, Import, Present, OnReceipt}
pub use Rattle.pawn_wire.specs.declared.request.Outline.{Outline}
pub use Rattle.pawn_wire.specs.declared.route.BearerAction.{BearerAction}
pub use Rattle.pawn_wire.specs.declared.route.BrokerAction.{BrokerAction}
pub use Rattle.pawn_wire.specs.declared.route.Endpoint.{Endpoint}
pub use Rattle.pawn_wire.specs.declared.router.Asked.{Asked}
