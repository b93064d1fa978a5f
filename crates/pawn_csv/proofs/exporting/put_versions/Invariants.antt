use Rattle.pawn_csv.proofs.Basics.{take}
use Rattle.pawn_csv.proofs.CountLemmas.{lines_from, version_line}
use Rattle.pawn_csv.specs.Common.{Reads, Whole, get, terms_of}
use Rattle.pawn_csv.specs.Sent.{PutsRowsShare}
use Rattle.pawn_csv.proofs.exporting.put_versions.Given as goal

abbrev pub invariant-loop-index : goal.invariant-loop-index
invariant-loop-index g l = record {
  shares : Reads g.K.Keep.keeping l.fn.keep l.keep
      (λ h. PutsRowsShare g.W.Write.contents l.fn.rows.sink (lines_from version_line 0 1 (take l.index (terms_of (get h.books l.book)))) Whole l.rows.sink);
}
