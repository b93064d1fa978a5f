use Rattle.pawn_book.specs.declared.items.RowItem.{RowItem}
use Rattle.pawn_tables.proofs.RowReading.{rules, read_other}
use Rattle.pawn_tables.proofs.kinds.entry_item.Goals as goal

pub returns-in_err-entry : goal.returns-in_err-entry
returns-in_err-entry c = record {
  read = λ e more is. let r = read_other _ e (RowItem.Entry c.args.number e) _ _ (λ told. told) (c.in_err-entry.ensures.read e more is) in search rules;
}
