use Rattle.pawn_tables.proofs.RowReading.{arith, refl, rules, IsNumber, number_cells, always_read, first_err, cell_at}
use Rattle.pawn_tables.proofs.heads.first_number.Goals as goal

pub returns-in_err-number_at : goal.returns-in_err-number_at
returns-in_err-number_at c = record {
  read = λ n are.
      let e = first_err number_cells IsNumber c.args.rows.now c.row-item.result c.in_err-number_at.field-0.0 c.row-item.is
      (let some = c.in-len1-up.len_at_least in omega (arith, some)) (λ m is. let at = cell_at 0 is (omega arith) refl in
      always_read c.in_err-number_at.field-0.0 m m (IsNumber m) (c.in_err-number_at.ensures.read m at.0 at.1)) n are in search rules;
}
