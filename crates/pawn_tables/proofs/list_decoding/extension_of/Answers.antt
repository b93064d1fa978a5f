use Rattle.pawn_tables.proofs.RowReading.{arith, refl, rules, cell_at}
use Rattle.pawn_tables.proofs.list_decoding.extension_of.Goals as goal

pub returns-in_err-day : goal.returns-in_err-day
returns-in_err-day c = record {
  read = λ place e more is. let a = cell_at 1 is (omega arith) refl in let r = c.in_err-day.ensures.read _ a.0 a.1 in search
      rules;
}

pub returns-in_err-until : goal.returns-in_err-until
returns-in_err-until c =
    record { read = λ place e more is. let at = cell_at 2 is (omega arith) refl in let r = c.in_err-until.ensures.read _ at.0 at.1 in search rules }
