use Rattle.pawn_tables.proofs.ListsOfRows.{first_err_of, first_of}
use Rattle.pawn_tables.specs.Common.{IsWord, IsDayNumber}
use Rattle.pawn_tables.specs.ListEnds.{last_cells}
use Rattle.pawn_tables.specs.declared.joining.LastSecret.{LastSecret}
use Rattle.std.proofs.Common.{arith, rules}
use Rattle.pawn_tables.proofs.list_ends.first_last.Goals as goal

pub returns-in_err-last_of : goal.returns-in_err-last_of
returns-in_err-last_of c = record {
  read = λ l fits are.
      let e = first_err_of last_cells (λ (x : LastSecret). IsWord x.issued.secret) (λ (x : LastSecret). IsDayNumber x.issued.day) c.args.rows.now
      c.row-item.result _ c.row-item.is (let some = c.in-len1-up.len_at_least in omega (arith, some)) c.in_err-last_of.ensures.read l fits are in search rules;
}

pub returns : goal.returns
returns c = record {
  read = λ l fits are. first_of last_cells (λ (x : LastSecret). IsWord x.issued.secret) c.args.rows.now c.row-item.result c.in_ok-last_of.field-0 c.row-item.is
      (let some = c.in-len1-up.len_at_least in omega (arith, some)) c.in_ok-last_of.ensures.read l fits are;
}
