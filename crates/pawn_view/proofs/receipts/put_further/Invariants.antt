use Rattle.pawn_view.specs.Common.{HasTermsOf, IsSound, PutsShare, Reads, Whole, get, live_at, pledge_in}
use Rattle.pawn_view.specs.Text.{further_texts}
use Rattle.std.proofs.Common.{take, map}
use Rattle.pawn_view.proofs.receipts.put_further.Given as goal

abbrev pub invariant-loop-receipt : goal.invariant-loop-receipt
invariant-loop-receipt g l = record {
  shares : Reads g.K.Keep.keeping l.fn.keep l.keep (λ h. IsSound h → HasTermsOf (get h.books l.book) l.known → PutsShare g.W.Write.contents l.fn.writer
      (further_texts l.day (map (live_at (pledge_in (get h.books l.book))) (take l.receipt-index l.receipts))) Whole l.writer);
}
