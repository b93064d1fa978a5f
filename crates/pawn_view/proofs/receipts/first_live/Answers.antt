use Rattle.pawn_book.proofs.Reading.{reads_then}
use Rattle.pawn_view.proofs.PresentedLemmas.{any_known, live_terms, unknown_more}
use Rattle.pawn_view.specs.Common.{get, live_at, pledge_in}
use Rattle.std.proofs.Common.{ap, sym, not}
use Rattle.pawn_view.proofs.receipts.first_live.Goals as goal

pub returns-in-Some-clause-reads : goal.returns-in-Some-clause-reads
returns-in-Some-clause-reads g c = reads_then c.loop-receipt.invariant.reads c.in_ok-brief.ensures.reads
    (λ h before said sound. (
      sym (ap not (any_known (live_at (pledge_in (get h.books c.args.book))) c.args.receipts.now c.loop-receipt.receipt-index
          c.receipt-item.result c.in-Some.brief c.loop-receipt-test.true c.receipt-item.is (rw c.in-Some.is at (said sound)))),
      live_terms h c.args.book c.receipt-item.result c.in-Some.brief sound (rw c.in-Some.is at (said sound)),
    ))

pub loop-receipt-preserved : goal.loop-receipt-preserved
loop-receipt-preserved g c = record {
  reads =
      reads_then c.loop-receipt.invariant.reads c.in_ok-brief.ensures.reads (λ h before said sound.
      unknown_more (live_at (pledge_in (get h.books c.args.book)))
      c.args.receipts.now c.loop-receipt.receipt-index c.receipt-item.result c.loop-receipt-test.true c.receipt-item.is (before sound)
      (rw c.in-None.is at (said sound)));
}
