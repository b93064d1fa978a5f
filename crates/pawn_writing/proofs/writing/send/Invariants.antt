use Rattle.pawn_writing.specs.Ends.{write_failed, written_bytes}
use Rattle.std.proofs.Common.{length, ◌-◌, ◌≡◌, ◌≤◌, false, take}
use Rattle.std.specs.Io.KnownBytes.{Appends}
use Rattle.pawn_writing.proofs.writing.send.Given as goal

abbrev pub invariant-loop-sent : goal.invariant-loop-sent
invariant-loop-sent g l = record {
  bound : l.sent ≤ length l.bytes;
  bytes : Appends (written_bytes g.W.Write.contents l.initial.writer) (written_bytes g.W.Write.contents l.writer) (take l.sent l.bytes);
  fine : write_failed l.writer ≡ false;
}

abbrev pub decreases-loop-sent : goal.decreases-loop-sent
decreases-loop-sent g l = length l.bytes - l.sent
