use Rattle.pawn_book.specs.declared.items.RowItem.{RowItem}
use Rattle.pawn_tables.proofs.RowReading.{IsDayNumber, arith, refl, rules, always_read, cell_at, read_other}
use Rattle.pawn_tables.proofs.kinds.secret_item.Goals as goal

pub returns-in_err-place : goal.returns-in_err-place
returns-in_err-place c = record {
  read = λ place i more word is. let a = cell_at 0 is (omega arith) refl in
      let r = always_read c.in_err-place.field-0.0 place (RowItem.Secret c.args.number place i) (IsDayNumber i.day)
      (c.in_err-place.ensures.read place a.0 a.1) in
      search rules;
}

pub returns-in_err-issued : goal.returns-in_err-issued
returns-in_err-issued c = record {
  read = λ place i more word is.
      let r = read_other _ i (RowItem.Secret c.args.number place i) _ _ (λ told. told) (c.in_err-issued.ensures.read place i more word is) in search rules;
}

pub returns : goal.returns
returns c = record {
  read = λ place i more word is. let a = cell_at 0 is (omega arith) refl in let at = c.in_ok-place.ensures.read place a.0 a.1 in
      let issued = c.in_ok-issued.ensures.read place i more word is in
      λ x. RowItem.Secret c.args.number (at x) (issued x);
}
