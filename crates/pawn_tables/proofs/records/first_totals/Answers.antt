use Rattle.pawn_tables.proofs.RowReading.{arith, rules, IsDayNumber, first_err}
use Rattle.pawn_tables.specs.Common.{Totals}
use Rattle.pawn_tables.specs.Rows.{totals_cells}
use Rattle.pawn_tables.proofs.records.first_totals.Goals as goal

pub returns-in_err-totals_of : goal.returns-in_err-totals_of
returns-in_err-totals_of c = record {
  read = λ t are. let e = first_err totals_cells (λ (t : Totals). IsDayNumber t.day) c.args.rows.now c.row-item.result _ c.row-item.is
      (let some = c.in-len1-up.len_at_least in omega (arith, some)) c.in_err-totals_of.ensures.read t are in search rules;
}
