use Rattle.pawn_writing.specs.Ends.{Puts}
use Rattle.std.proofs.Common.{take}
use Rattle.std.specs.List.{flat_map}
use Rattle.pawn_writing.proofs.writing.put_all.Given as goal

abbrev pub invariant-loop-piece : goal.invariant-loop-piece
invariant-loop-piece g l = Puts g.W.Write.contents l.fn.writer (flat_map (λ p. p.now) (take l.piece-index l.pieces)) l.writer
