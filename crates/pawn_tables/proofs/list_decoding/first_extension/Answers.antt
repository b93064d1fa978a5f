use Rattle.pawn_tables.proofs.RowReading.{[], arith, rules, IsDayNumber, Extension, first_err}
use Rattle.pawn_tables.specs.Rows.{extension_cells}
use Rattle.pawn_tables.proofs.list_decoding.first_extension.Goals as goal

pub returns-in_err-extension_of : goal.returns-in_err-extension_of
returns-in_err-extension_of c = record {
  read = λ place t are. let e =
      first_err (extension_cells place) (λ (t : Extension). IsDayNumber t.day × IsDayNumber t.until) c.args.rows.now c.row-item.result _ c.row-item.is
      (let some = c.in-len1-up.len_at_least in omega (arith, some)) (λ x is. c.in_err-extension_of.ensures.read place x [] is) t are in search rules;
}
