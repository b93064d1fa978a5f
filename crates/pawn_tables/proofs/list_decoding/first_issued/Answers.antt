use Rattle.pawn_tables.proofs.RowReading.{[], arith, rules, IsDayNumber, Issued, IsWord, first_err_of, first_of}
use Rattle.pawn_tables.specs.Rows.{secret_cells}
use Rattle.pawn_tables.proofs.list_decoding.first_issued.Goals as goal

pub returns-in_err-issued_of : goal.returns-in_err-issued_of
returns-in_err-issued_of c = record {
  read = λ place i fits are. let e =
      first_err_of (secret_cells place) (λ (x : Issued). IsWord x.secret) (λ (x : Issued). IsDayNumber x.day) c.args.rows.now c.row-item.result _ c.row-item.is
      (let some = c.in-len1-up.len_at_least in omega (arith, some)) (λ x word is. c.in_err-issued_of.ensures.read place x [] word is) i fits are in search
      rules;
}

pub returns : goal.returns
returns c = record {
  read = λ place i fits are. first_of (secret_cells place) (λ (x : Issued). IsWord x.secret) c.args.rows.now c.row-item.result
      c.in_ok-issued_of.field-0 c.row-item.is (let some = c.in-len1-up.len_at_least in omega (arith, some)) (λ x word is. c.in_ok-issued_of.ensures.read place
      x [] word is) i fits are;
}
