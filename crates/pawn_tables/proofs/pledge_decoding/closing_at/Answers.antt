use Rattle.pawn_tables.proofs.RowReading.{arith, refl, rules, cell_at}
use Rattle.pawn_tables.proofs.pledge_decoding.closing_at.Goals as goal

pub returns-in_err-closed : goal.returns-in_err-closed
returns-in_err-closed c = record {
  read = λ q more is. let a = cell_at 11 is (omega arith) refl in let r = c.in_err-closed.ensures.read _ a.0 a.1 in search
      rules;
}
