use Rattle.pawn_reply.specs.Fault.{wire_fault}
use Rattle.pawn_reply.specs.Reply.{fault_text}
use Rattle.pawn_reply.specs.Types.{HeadFault}
use Rattle.std.proofs.Common.{sym, ap}
use Rattle.std.specs.Fmt.{digits}
use Rattle.pawn_reply.proofs.reply.fault_reply.Goals as goal

pub returns-in-BadHead : goal.returns-in-BadHead
unfolding digits
returns-in-BadHead c = record { text = sym (ap (λ (f : HeadFault). fault_text (wire_fault f)) c.in-BadHead.is) }

pub returns-in-Transfer : goal.returns-in-Transfer
unfolding digits
returns-in-Transfer c = record { text = sym (ap (λ (f : HeadFault). fault_text (wire_fault f)) c.in-Transfer.is) }

pub returns-in-BadLength : goal.returns-in-BadLength
unfolding digits
returns-in-BadLength c = record { text = sym (ap (λ (f : HeadFault). fault_text (wire_fault f)) c.in-BadLength.is) }

pub returns-in-BodyTooLong : goal.returns-in-BodyTooLong
unfolding digits
returns-in-BodyTooLong c = record { text = sym (ap (λ (f : HeadFault). fault_text (wire_fault f)) c.in-BodyTooLong.is) }
