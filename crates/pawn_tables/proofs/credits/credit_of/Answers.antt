use Rattle.pawn_tables.proofs.RowReading.{arith, refl, rules, cell_at}
use Rattle.pawn_tables.proofs.credits.credit_of.Goals as goal

pub returns-in_err-number : goal.returns-in_err-number
returns-in_err-number c = record { read = λ p is. let a = cell_at 0 is (omega arith) refl in let r = c.in_err-number.ensures.read _ a.0 a.1 in search rules }

pub returns-in_err-credit : goal.returns-in_err-credit
returns-in_err-credit c = record { read = λ p is. let a = cell_at 1 is (omega arith) refl in let r = c.in_err-credit.ensures.read _ a.0 a.1 in search rules }

pub returns-in_err-version : goal.returns-in_err-version
returns-in_err-version c = record { read = λ p is. let a = cell_at 4 is (omega arith) refl in let r = c.in_err-version.ensures.read _ a.0 a.1 in search rules }

pub returns-in_err-day : goal.returns-in_err-day
returns-in_err-day c = record { read = λ p is. let at = cell_at 2 is (omega arith) refl in let r = c.in_err-day.ensures.read _ at.0 at.1 in search rules }
