-- Re-exports the definitions of this crate that its code and its proofs use most.
pub use Rattle.pawn_book.specs.declared.change.Change.{Change}
pub use Rattle.pawn_book.specs.declared.change.Change.TheVariants.{AddTerms, ImportBook, MakeBook, PutPledge}
pub use Rattle.pawn_book.specs.declared.change.Imported.{Imported}
pub use Rattle.pawn_book.specs.declared.change.Planned.{Planned}
pub use Rattle.pawn_book.specs.declared.refusal.Refusal.{Refusal}
pub use Rattle.pawn_book.specs.declared.refusal.Refusal.TheVariants.{BookNotEmpty, BookTaken, Full, Memory, NoSuchBook}
pub use Rattle.pawn_book.specs.declared.refusal.Refusal.TheVariants.{NoSuchReceipt, NotOperator, PledgesFull, RefTaken}
pub use Rattle.pawn_book.specs.declared.refusal.Refusal.TheVariants.{TermsFull, TermsSeq, WindowFull}
pub use Rattle.pawn_book.specs.declared.reply.Reply.{Reply}
pub use Rattle.pawn_book.specs.declared.reply.Reply.TheVariants.{BookFilled, BookMade, Commanded, Opened, TermsPut}
pub use Rattle.pawn_book.specs.declared.request.BearerRequest.{BearerRequest}
pub use Rattle.pawn_book.specs.declared.request.BearerRequest.TheVariants.{OnPledge as OnReceipt, Present}
pub use Rattle.pawn_book.specs.declared.request.BrokerRequest.TheVariants.{Import, OnPledge, PutTerms, TakePledge}
pub use Rattle.pawn_book.specs.declared.request.Caller.{Caller}
pub use Rattle.pawn_book.specs.declared.request.Caller.TheVariants.{Bearer, Broker, Operator, Viewer}
pub use Rattle.pawn_book.specs.declared.request.NewBook.{NewBook}
pub use Rattle.pawn_book.specs.declared.request.NewTerms.{NewTerms}
pub use Rattle.pawn_book.specs.declared.request.Request.{Request}
pub use Rattle.pawn_book.specs.declared.book_rows.BookRows.{BookRows}
pub use Rattle.pawn_book.specs.declared.visit.Flow.{Flow}
pub use Rattle.pawn_book.specs.declared.visit.Flow.TheVariants.{Go, Stop}
