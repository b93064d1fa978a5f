use Rattle.pawn_book.specs.BookStep.{BookValue}
use Rattle.pawn_book.specs.Keeping.{Reads}
use Rattle.pawn_check.specs.Checking.{IsFront, most_pledge_rows}
use Rattle.std.proofs.Common.{◌≡◌, ◌≤◌, ◌*◌, length, take, Some}
use Rattle.std.specs.FinMap.{get}
use Rattle.pawn_check.proofs.pledges.pledges_rows.Given as goal

abbrev pub invariant-loop-place : goal.invariant-loop-place
invariant-loop-place g l = record {
  reads : Reads g.K.Keep.keeping l.fn.keep l.keep
      (λ h. (k : BookValue) → get h.books l.book ≡ Some k → l.count ≡ length k.pledges → IsFront k (take l.place k.pledges) l.version l.rows);
  few : l.rows ≤ l.place * most_pledge_rows;
}
