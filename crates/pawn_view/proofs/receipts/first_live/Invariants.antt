use Rattle.pawn_view.specs.Common.{IsSound, Reads, are_unknown, get, live_at, pledge_in}
use Rattle.std.proofs.Common.{◌≡◌, true, take, map}
use Rattle.pawn_view.proofs.receipts.first_live.Given as goal

abbrev pub invariant-loop-receipt : goal.invariant-loop-receipt
invariant-loop-receipt g l = record {
  reads : Reads g.K.Keep.keeping l.fn.keep l.keep
      (λ h. IsSound h → are_unknown (map (live_at (pledge_in (get h.books l.book))) (take l.receipt-index l.receipts)) ≡ true);
}
