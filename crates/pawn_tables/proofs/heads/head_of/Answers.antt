use Rattle.pawn_tables.proofs.RowReading.{arith, refl, rules, cell_at}
use Rattle.pawn_tables.proofs.heads.head_of.Goals as goal

pub returns-in_err-name : goal.returns-in_err-name
returns-in_err-name c = record { read = λ k keys is. let a = cell_at 1 is (omega arith) refl in let r = c.in_err-name.ensures.read _ a.0 a.1 in search rules }

pub returns-in_err-number_at : goal.returns-in_err-number_at
returns-in_err-number_at c =
    record { read = λ k keys is. let at = cell_at 2 is (omega arith) refl in let r = c.in_err-number_at.ensures.read _ at.0 at.1 in search rules }

pub returns-in_err-terms : goal.returns-in_err-terms
returns-in_err-terms c = record { read = λ k keys is. let a = cell_at 3 is (omega arith) refl in let r = c.in_err-terms.ensures.read _ a.0 a.1 in search rules }

pub returns-in_err-pledges : goal.returns-in_err-pledges
returns-in_err-pledges c =
    record { read = λ k keys is. let at = cell_at 4 is (omega arith) refl in let r = c.in_err-pledges.ensures.read _ at.0 at.1 in search rules }
