use Rattle.pawn_writing.proofs.PutLemmas.{puts_more}
use Rattle.pawn_writing.proofs.writing.put_all.Goals as goal

pub loop-piece-preserved : goal.loop-piece-preserved
loop-piece-preserved g c = puts_more g.W.Write.contents c.args.writer.now c.loop-piece.writer c.put.new.writer
    (λ p. p.now) c.args.pieces.now c.loop-piece.piece-index _ c.loop-piece-test.true c.loop-piece.invariant c.put.ensures.puts
