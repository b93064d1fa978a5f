use Rattle.pawn_wire.proofs.ReceiptLemmas.{receipt_said-some, receipt_said-none}
use Rattle.std.proofs.Common.{sym}
use Rattle.pawn_wire.proofs.receipts.receipt_of.Goals as goal

pub returns-in-Ok : goal.returns-in-Ok
returns-in-Ok c = record { value = sym (receipt_said-some c.args.text.now c.in-Ok.receipt c.in-Ok.ensures.ok) }

pub returns-in-Err : goal.returns-in-Err
returns-in-Err c = record { value = sym (receipt_said-none c.args.text.now c.in-Err.ensures.err) }
