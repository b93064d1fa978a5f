use Rattle.pawn_book.specs.declared.items.RowItem.{RowItem}
use Rattle.pawn_tables.proofs.RowReading.{rules, ℕ, ◌∙◌, added_more, err_finds, finds_failed, mapped, placed_err, placed_whole}
use Rattle.pawn_tables.specs.Kinds.{IsItemDecodable, IsRowOf, cells_of}
use Rattle.pawn_tables.proofs.kinds.read_items.Goals as goal

pub loop-row-preserved : goal.loop-row-preserved
loop-row-preserved c =
    added_more (λ (place : ℕ) (i : RowItem). cells_of c.args.given.now i) (IsRowOf c.args.kind c.args.given.now) c.args.rows.now c.loop-row.row-index
    c.loop-row.items.items c.add_item.new.items.items c.row-item.result c.loop-row-test.true c.row-item.is
    (λ place i such is. c.in_ok-add_item.ensures.read i such is) c.loop-row.invariant

pub returns-in_err-add_item : goal.returns-in_err-add_item
returns-in_err-add_item c = record {
  read = λ is such are. let e =
      placed_err (λ (place : ℕ) (i : RowItem). cells_of c.args.given.now i) (IsRowOf c.args.kind c.args.given.now) IsItemDecodable c.args.rows.now
      c.loop-row.row-index
      c.row-item.result c.in_err-add_item.field-0.0 c.loop-row-test.true c.row-item.is
      (λ place i row_of is. err_finds c.in_err-add_item.field-0.0 _ _ _ (c.in_err-add_item.ensures.read i row_of is)) 1 is such
      (are ∙ mapped (cells_of c.args.given.now) 1 is) in
      finds_failed c.from_residual.result c.in_err-add_item.field-0.0 _ _ _ _ (search rules) e (λ bad. bad);
}

pub returns : goal.returns
returns c = record {
  read = λ is such are. placed_whole (λ (place : ℕ) (i : RowItem). cells_of c.args.given.now i) (IsRowOf c.args.kind c.args.given.now) c.args.rows.now
      c.loop-row.row-index c.loop-row.items.items (search rules) c.loop-row.invariant 1 is such (are ∙ mapped (cells_of c.args.given.now) 1 is);
}
