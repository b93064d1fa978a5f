-- Names from other crates that many files of this crate use.
pub use Rattle.httparse.specs.Grammar.{EndsInTarget, HasNoRequest, MayBecomeRequest, ReadsRequest, RequestHead}
pub use Rattle.httparse.specs.Grammar.{print_request}
pub use Rattle.pawn_book.specs.BookStep.{BookValue, Denied, Exported, Listed, Makes, Out, Outcome, Refuses, Says, Shown}
pub use Rattle.pawn_book.specs.BookStep.{Replied, are_unknown, gate_step, view_step, out_of, pledge_in, rows_of_book}
pub use Rattle.pawn_book.specs.BookStep.{show_pledge}
pub use Rattle.pawn_book.specs.HostStep.{Host, host_after, host_step, rows, within_limit}
pub use Rattle.pawn_book.specs.Keeping.{GoesOn, Keeping, OfHost, Reads}
pub use Rattle.pawn_book.specs.Machines.{is_slots, reply_alone, solo_reply}
pub use Rattle.pawn_book.specs.Runs.{Answered, Event, Faulted, Mark, Said, event_reply, host_after_event}
pub use Rattle.pawn_book.specs.Runs.{host_after_mark, is_settled, mark_reply, no_memory, no_store, read_as, run_host}
pub use Rattle.pawn_book.specs.Runs.{run_replies}
pub use Rattle.pawn_book.specs.Sound.{IsSound}
pub use Rattle.pawn_book.specs.Traces.{book_trace, slot_trace}
pub use Rattle.pawn_book.specs.declared.refusal.Refusal.{Refusal}
pub use Rattle.pawn_book.specs.declared.request.BearerRequest.{BearerRequest}
pub use Rattle.pawn_book.specs.declared.request.BearerRequest.TheVariants.{Present}
pub use Rattle.pawn_book.specs.declared.request.Caller.TheVariants.{Bearer, Viewer}
pub use Rattle.pawn_book.specs.declared.request.Request.{Request}
pub use Rattle.pawn_book.specs.declared.request.View.{View}
pub use Rattle.pawn_csv.specs.Rows.{csv_of}
pub use Rattle.pawn_pledge.specs.declared.command.Stamp.{Stamp}
pub use Rattle.pawn_pledge.specs.declared.receipt.Receipt.{Receipt}
pub use Rattle.pawn_reply.specs.Fault.{wire_fault}
pub use Rattle.pawn_reply.specs.Reply.{fault_text, memory_text, out_text, reply_text}
pub use Rattle.pawn_reply.specs.declared.fault.HeadFault.{HeadFault}
pub use Rattle.pawn_reply.specs.declared.fault.WireFault.{WireFault}
pub use Rattle.pawn_wire.specs.Head.{IsBadHead, IsHead, IsHeadRead, ReadsHead, body_length, closes_by, fields_of}
pub use Rattle.pawn_wire.specs.Limits.{most_fields, most_head}
pub use Rattle.pawn_wire.specs.Request.{SaysRequest}
pub use Rattle.pawn_wire.specs.declared.head.HeadFacts.{HeadFacts}
pub use Rattle.pawn_wire.specs.declared.head.HeadRead.TheVariants.{Fault, Partial}
pub use Rattle.pawn_writing.specs.Ends.{write_failed, written_bytes}
pub use Rattle.pawn_writing.specs.declared.fault.ViewFault.{ViewFault}
pub use Rattle.std.specs.FinMap.{get}
pub use Rattle.std.specs.Io.KnownBytes.{Appends, Consumes, IsAtEnd, Keeps, prepend_known}
pub use Rattle.std.specs.Iterator.{Yields}
pub use Rattle.std.specs.List.{concat}
