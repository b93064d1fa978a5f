use Rattle.pawn_tables.proofs.RowReading.{[], arith, rules, IsEntryDecodable, first_err}
use Rattle.pawn_tables.specs.Rows.{entry_cells}
use Rattle.pawn_tables.proofs.list_decoding.first_entry.Goals as goal

pub returns-in_err-entry_of : goal.returns-in_err-entry_of
returns-in_err-entry_of c = record {
  read = λ t are. let e = first_err entry_cells IsEntryDecodable c.args.rows.now c.row-item.result _ c.row-item.is
      (let some = c.in-len1-up.len_at_least in omega (arith, some)) (λ x is. c.in_err-entry_of.ensures.read x [] is) t are in search rules;
}
