use Rattle.pawn_book.proofs.Reading.{reads_then}
use Rattle.pawn_view.proofs.PresentedLemmas.{further_goes_on, further_stops}
use Rattle.pawn_view.specs.Common.{get, live_at, pledge_in}
use Rattle.std.proofs.Common.{◌≡◌, Err, rules}
use Rattle.pawn_view.proofs.receipts.put_further.Goals as goal

pub returns-in_err-put_shown-clause-shares : goal.returns-in_err-put_shown-clause-shares
returns-in_err-put_shown-clause-shares g c =
    let now : c.from_residual.result ≡ Err c.in_err-put_shown.field-0.0 = search rules in
    reads_then c.loop-receipt.invariant.shares c.in_err-put_shown.ensures.shares (λ h first share sound known.
    rw now (further_stops g.W.Write.contents c.args.writer.now c.loop-receipt.writer c.put.new.writer c.put_shown.new.writer c.args.day
    (live_at (pledge_in (get h.books c.args.book))) c.args.receipts.now c.loop-receipt.receipt-index c.receipt-item.result
    c.loop-receipt-test.true c.receipt-item.is (first sound known) c.put.ensures.puts (share sound known)))

pub loop-receipt-preserved : goal.loop-receipt-preserved
loop-receipt-preserved g c = record {
  shares =
      reads_then c.loop-receipt.invariant.shares c.in_ok-put_shown.ensures.shares (λ h first share sound known. further_goes_on g.W.Write.contents
      c.args.writer.now c.loop-receipt.writer c.put.new.writer c.put_shown.new.writer c.args.day
      (live_at (pledge_in (get h.books c.args.book))) c.args.receipts.now
      c.loop-receipt.receipt-index c.receipt-item.result c.loop-receipt-test.true c.receipt-item.is (first sound known) c.put.ensures.puts (share sound known));
}
