use Rattle.pawn_writing.proofs.PutLemmas.{puts_sent}
use Rattle.std.proofs.Common.{◌∙◌, sym}
use Rattle.pawn_writing.proofs.writing.put.Goals as goal

pub returns-then-not-has_failed : goal.returns-then-not-has_failed
returns-then-not-has_failed g c = record {
  puts = puts_sent g.W.Write.contents c.args.writer.now c.send.new.writer c.args.bytes.now c.send.result
      (sym c.has_failed.ensures.answer ∙ c.if-not-has_failed.true) c.send.ensures.bound c.send.ensures.bytes c.send.ensures.done c.send.ensures.failed;
}
