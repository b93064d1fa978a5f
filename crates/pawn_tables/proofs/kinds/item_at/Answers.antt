use Rattle.pawn_tables.proofs.ItemReads.{cells_begin}
use Rattle.pawn_tables.proofs.RowReading.{kept_less, sym}
use Rattle.pawn_tables.specs.Kinds.{AreCellsDecodable, IsItemDecodable}
use Rattle.pawn_tables.proofs.kinds.item_at.Goals as goal

pub returns : goal.returns
returns c = record {
  read = λ i such is. let cells = cells_begin c.args.given.now i c.args.row.now is in
      kept_less c.item_of.result i (AreCellsDecodable i) (IsItemDecodable i) (λ told. told.0)
      (c.item_of.ensures.read i cells.0 such.kind_is (sym (c.in_ok-number.ensures.read i such is)) such.word cells.1);
}
