use Rattle.pawn_host.proofs.ReadLemmas.{ReadSoFar}
use Rattle.pawn_host.proofs.SessionLemmas.{SoFar, TakenSoFar}
use Rattle.pawn_host.specs.Common.{prepend_known, write_failed, written_bytes}
use Rattle.pawn_host.specs.Ends.{left_of, read_failed, reads}
use Rattle.pawn_host.specs.Keeps.{ForEachStart, StaysOpen}
use Rattle.pawn_host.specs.Unanswered.{unanswered}
use Rattle.std.proofs.Common.{◌≡◌, ◌≤◌, ◌*◌, ◌^◌, false}
use Rattle.pawn_host.proofs.service.Service.answer_all.Given as goal

abbrev pub invariant-loop-acted : goal.invariant-loop-acted
invariant-loop-acted g l = record {
  fine : write_failed l.writer ≡ false;
  readable : read_failed l.reader ≡ false;
  can : g.I.Iterator.can_next l.stamps;
  taken : TakenSoFar g.I.Iterator.next_gives l.fn.stamps l.stamps l.acted;
  fetched : ReadSoFar (left_of g.R.Read.remaining l.fn.reader) (left_of g.R.Read.remaining l.reader) (reads l.reader) l.acted (unanswered l.buffer);
  room : l.sent ≤ l.acted * 2 ^ 64;
  stays : StaysOpen g.K.Keep.keeping l.fn.self l.self;
  so_far : ForEachStart g.K.Keep.keeping l.fn.self l.self (λ start kept. SoFar g.I.Iterator.next_gives
      (record { start = start; stamps = l.fn.stamps; stream = left_of g.R.Read.remaining l.fn.reader; written = written_bytes g.W.Write.contents l.fn.writer })
      l.stamps kept (prepend_known (unanswered l.buffer) (left_of g.R.Read.remaining l.reader)) (written_bytes g.W.Write.contents l.writer) l.acted l.sent);
}
