use Rattle.pawn_book.specs.declared.items.RowItem.{RowItem}
use Rattle.pawn_tables.proofs.RowReading.{IsDayNumber, arith, refl, rules, always_read, cell_at, read_other}
use Rattle.pawn_tables.proofs.kinds.extension_item.Goals as goal

pub returns-in_err-place : goal.returns-in_err-place
returns-in_err-place c = record {
  read = λ place e more is. let a = cell_at 0 is (omega arith) refl in
      let r = always_read c.in_err-place.field-0.0 place (RowItem.Extension c.args.number place e) (IsDayNumber e.day × IsDayNumber e.until)
      (c.in_err-place.ensures.read place a.0 a.1) in
      search rules;
}

pub returns-in_err-extension : goal.returns-in_err-extension
returns-in_err-extension c = record {
  read = λ place e more is.
      let r = read_other _ e (RowItem.Extension c.args.number place e) _ _ (λ told. told) (c.in_err-extension.ensures.read place e more is) in search rules;
}

pub returns : goal.returns
returns c = record {
  read = λ place e more is. let a = cell_at 0 is (omega arith) refl in let at = c.in_ok-place.ensures.read place a.0 a.1 in
      let extension = c.in_ok-extension.ensures.read place e more is in
      λ i. RowItem.Extension c.args.number (at i) (extension i);
}
