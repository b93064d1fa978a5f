use Rattle.pawn_writing.proofs.EndsLemmas.{sent_more, not_failed}
use Rattle.std.proofs.Common.{arith, ◌∙◌}
use Rattle.std.proofs.lemmas.Grind.{common_steps}
use Rattle.std.specs.contracts.io.Error.{the_row as error_row}
use Rattle.pawn_writing.proofs.writing.send.Goals as goal

pub loop-sent-preserved : goal.loop-sent-preserved
loop-sent-preserved g c = record {
  bound = grind (arith, common_steps, c.in-Ok.ensures.bound);
  bytes = sent_more _ _ _ c.args.bytes.now _ _ c.loop-sent.invariant.bytes c.in-Ok.ensures.bytes;
  fine = c.in-Ok.ensures.failed ∙ not_failed error_row.Denot _ _ _ c.loop-sent.invariant.fine c.in-Ok.n-test.1;
}
