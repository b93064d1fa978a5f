use Rattle.pawn_tables.proofs.RowCells.{cell_at}
use Rattle.std.proofs.Common.{[], rules, refl, arith}
use Rattle.pawn_tables.proofs.list_ends.last_of.Goals as goal

pub returns-in_err-place : goal.returns-in_err-place
returns-in_err-place c = record { read = λ l fits is. let a = cell_at 0 is (omega arith) refl in let r = c.in_err-place.ensures.read _ a.0 a.1 in search rules }

pub returns-in_err-issued : goal.returns-in_err-issued
returns-in_err-issued c = record { read = λ l fits is. let r = c.in_err-issued.ensures.read l.place l.issued [] fits is in search rules }

pub returns : goal.returns
returns c = record {
  read = λ l fits is. let at = cell_at 0 is (omega arith) refl in let place = c.in_ok-place.ensures.read l.place at.0 at.1 in
      let issued = c.in_ok-issued.ensures.read l.place l.issued [] fits is in
      λ i. record { place = place i; issued = issued i };
}
