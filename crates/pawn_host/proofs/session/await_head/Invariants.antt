use Rattle.pawn_host.proofs.ReadLemmas.{FetchedSoFar}
use Rattle.pawn_host.specs.Common.{Keeps, prepend_known}
use Rattle.pawn_host.specs.Ends.{left_of, read_failed, reads}
use Rattle.pawn_host.specs.Unanswered.{unanswered}
use Rattle.std.proofs.Common.{◌≡◌, ◌-◌}
use Rattle.pawn_host.proofs.session.await_head.Given as goal

abbrev pub invariant-loop-head : goal.invariant-loop-head
invariant-loop-head g l = record {
  kept : Keeps (prepend_known (unanswered l.initial.buffer) (left_of g.R.Read.remaining l.initial.reader))
      (prepend_known (unanswered l.buffer) (left_of g.R.Read.remaining l.reader));
  fine : read_failed l.reader ≡ read_failed l.initial.reader;
  fetched : FetchedSoFar (unanswered l.initial.buffer) (unanswered l.buffer) (left_of g.R.Read.remaining l.initial.reader) (left_of g.R.Read.remaining l.reader)
      (reads l.initial.reader) (reads l.reader);
}

abbrev pub decreases-loop-head : goal.decreases-loop-head
decreases-loop-head g l = 100000 - reads l.reader
