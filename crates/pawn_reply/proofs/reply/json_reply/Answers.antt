use Rattle.pawn_reply.proofs.reply.json_reply.Goals as goal

pub returns : goal.returns
returns c = record { text = rw c.as_bytes.ensures.value at c.reply.ensures.text }
