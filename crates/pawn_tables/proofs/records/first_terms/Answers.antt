use Rattle.pawn_tables.proofs.RowReading.{arith, rules, first_err}
use Rattle.pawn_tables.specs.Common.{IsChecked}
use Rattle.pawn_tables.specs.Rows.{terms_cells}
use Rattle.pawn_tables.proofs.records.first_terms.Goals as goal

pub returns-in_err-terms_of : goal.returns-in_err-terms_of
returns-in_err-terms_of c = record {
  read = λ t are. let e = first_err terms_cells (IsChecked) c.args.rows.now c.row-item.result _ c.row-item.is
      (let some = c.in-len1-up.len_at_least in omega (arith, some)) c.in_err-terms_of.ensures.read t are in search rules;
}
