use Rattle.pawn_tables.proofs.RowReading.{arith, refl, rules, cell_at}
use Rattle.pawn_tables.proofs.records.totals_of.Goals as goal

pub returns-in_err-day : goal.returns-in_err-day
returns-in_err-day c = record { read = λ t is. let at = cell_at 0 is (omega arith) refl in let r = c.in_err-day.ensures.read _ at.0 at.1 in search rules }

pub returns-in_err-principal : goal.returns-in_err-principal
returns-in_err-principal c =
    record { read = λ t is. let at = cell_at 1 is (omega arith) refl in let r = c.in_err-principal.ensures.read _ at.0 at.1 in search rules }

pub returns-in_err-millionths : goal.returns-in_err-millionths
returns-in_err-millionths c =
    record { read = λ t is. let at = cell_at 2 is (omega arith) refl in let r = c.in_err-millionths.ensures.read _ at.0 at.1 in search rules }
