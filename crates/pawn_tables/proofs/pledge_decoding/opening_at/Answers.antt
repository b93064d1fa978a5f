use Rattle.pawn_tables.proofs.RowReading.{arith, refl, rules, cell_at}
use Rattle.pawn_tables.proofs.pledge_decoding.opening_at.Goals as goal

pub returns-in_err-reference : goal.returns-in_err-reference
returns-in_err-reference c =
    record { read = λ q more is. let at = cell_at 0 is (omega arith) refl in let r = c.in_err-reference.ensures.read _ at.0 at.1 in search rules }

pub returns-in_err-article : goal.returns-in_err-article
returns-in_err-article c = record {
  read = λ q more is. let a = cell_at 1 is (omega arith) refl in let r = c.in_err-article.ensures.read _ a.0 a.1 in search
      rules;
}

pub returns-in_err-number : goal.returns-in_err-number
returns-in_err-number c = record {
  read = λ q more is. let a = cell_at 2 is (omega arith) refl in let r = c.in_err-number.ensures.read _ a.0 a.1 in search
      rules;
}

pub returns-in_err-credit : goal.returns-in_err-credit
returns-in_err-credit c = record {
  read = λ q more is. let a = cell_at 3 is (omega arith) refl in let r = c.in_err-credit.ensures.read _ a.0 a.1 in search
      rules;
}
