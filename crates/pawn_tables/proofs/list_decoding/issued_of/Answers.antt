use Rattle.pawn_tables.proofs.RowReading.{arith, refl, rules, cell_at}
use Rattle.pawn_tables.proofs.list_decoding.issued_of.Goals as goal

pub returns-in_err-day : goal.returns-in_err-day
returns-in_err-day c =
    record { read = λ place i more fits is. let at = cell_at 1 is (omega arith) refl in let r = c.in_err-day.ensures.read _ at.0 at.1 in search rules }

pub returns-in_err-number_at : goal.returns-in_err-number_at
returns-in_err-number_at c =
    record { read = λ place i more fits is. let at = cell_at 2 is (omega arith) refl in let r = c.in_err-number_at.ensures.read _ at.0 at.1 in search rules }
