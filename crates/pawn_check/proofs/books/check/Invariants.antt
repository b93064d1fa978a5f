use Rattle.pawn_book.specs.HostStep.{rows}
use Rattle.pawn_book.specs.Keeping.{Reads}
use Rattle.pawn_check.proofs.Meeting.{AreMet}
use Rattle.std.proofs.Common.{◌≡◌, ◌≤◌, ◌*◌, ◌-◌, unwrap_or}
use Rattle.pawn_check.proofs.books.check.Given as goal

abbrev pub invariant-loop-book : goal.invariant-loop-book
invariant-loop-book g l = record {
  reads : Reads g.K.Keep.keeping l.fn.keep l.keep (λ h. (l.rows ≡ rows h) × AreMet h l.above l.books l.pledges l.left);
  last : l.above ≡ unwrap_or l.after 0;
  few : l.books ≤ l.above;
  fewer : l.pledges ≤ l.books * 1000000;
  low : l.above ≤ 999999999;
}

abbrev pub decreases-loop-book : goal.decreases-loop-book
decreases-loop-book g l = 999999999 - l.above
