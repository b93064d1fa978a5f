use Rattle.pawn_tables.proofs.RowReading.{arith, refl, rules, cell_at, read_other}
use Rattle.pawn_tables.specs.Kinds.{IsOwnDecodable, own_row}
use Rattle.pawn_tables.proofs.pledge_decoding.pledge_row.Goals as goal

pub returns-in_err-taken : goal.returns-in_err-taken
returns-in_err-taken c = record { read = λ q more is. let a = cell_at 4 is (omega arith) refl in let r = c.in_err-taken.ensures.read _ a.0 a.1 in search rules }

pub returns-in_err-version : goal.returns-in_err-version
returns-in_err-version c = record {
  read = λ q more is. let a = cell_at 7 is (omega arith) refl in let r = c.in_err-version.ensures.read _ a.0 a.1 in search
      rules;
}

pub returns-in_err-ends : goal.returns-in_err-ends
returns-in_err-ends c = record { read = λ q more is. let a = cell_at 8 is (omega arith) refl in let r = c.in_err-ends.ensures.read _ a.0 a.1 in search rules }

pub returns-in_err-last : goal.returns-in_err-last
returns-in_err-last c = record { read = λ q more is. let a = cell_at 10 is (omega arith) refl in let r = c.in_err-last.ensures.read _ a.0 a.1 in search rules }

pub returns-in_err-closing : goal.returns-in_err-closing
returns-in_err-closing c = record {
  read = λ q more is. let r = read_other _ q.closing (own_row q) _ _ (λ (told : IsOwnDecodable q). told.closed) (c.in_err-closing.ensures.read q more is) in
      search rules;
}

pub returns-in_err-opening : goal.returns-in_err-opening
returns-in_err-opening c = record {
  read = λ q more is. let r = read_other _ q.opening (own_row q) _ _ (λ (told : IsOwnDecodable q). told.opening) (c.in_err-opening.ensures.read q more is) in
      search rules;
}

pub returns : goal.returns
returns c = record {
  read = λ q more is. let t = cell_at 4 is (omega arith) refl in let taken = c.in_ok-taken.ensures.read q.taken t.0 t.1 in
      let v = cell_at 7 is (omega arith) refl in let version = c.in_ok-version.ensures.read q.version v.0 v.1 in
      let e = cell_at 8 is (omega arith) refl in let ends = c.in_ok-ends.ensures.read q.ends e.0 e.1 in
      let d = cell_at 9 is (omega arith) refl in let held = c.in_ok-held.ensures.read q.held d.0 d.1 in
      let l = cell_at 10 is (omega arith) refl in let last = c.in_ok-last.ensures.read q.last l.0 l.1 in
      let closing = c.in_ok-closing.ensures.read q more is in let opening = c.in_ok-opening.ensures.read q more is in
      λ i. record {
        opening = opening i;
        taken = taken i;
        version = version i;
        ends = ends i;
        held = held i;
        last = last i;
        closing = closing i;
      };
}
