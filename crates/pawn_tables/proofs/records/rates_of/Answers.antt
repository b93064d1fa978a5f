use Rattle.pawn_tables.proofs.RowReading.{arith, refl, rules, cell_at}
use Rattle.pawn_tables.proofs.records.rates_of.Goals as goal

pub returns-in_err-rate : goal.returns-in_err-rate
returns-in_err-rate c = record { read = λ t is. let a = cell_at 0 is (omega arith) refl in let r = c.in_err-rate.ensures.read _ a.0 a.1 in search rules }

pub returns-in_err-keep_before : goal.returns-in_err-keep_before
returns-in_err-keep_before c =
    record { read = λ t is. let at = cell_at 1 is (omega arith) refl in let r = c.in_err-keep_before.ensures.read _ at.0 at.1 in search rules }

pub returns-in_err-keep_after : goal.returns-in_err-keep_after
returns-in_err-keep_after c =
    record { read = λ t is. let at = cell_at 2 is (omega arith) refl in let r = c.in_err-keep_after.ensures.read _ at.0 at.1 in search rules }
