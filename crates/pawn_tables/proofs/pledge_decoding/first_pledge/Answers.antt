use Rattle.pawn_book.specs.Items.{pledge_item}
use Rattle.pawn_tables.proofs.RowReading.{[], ap, arith, length, rules, first_err, read_other, ◌<◌, ◌∙◌, ◌≡◌}
use Rattle.pawn_tables.specs.Common.{PledgeValue, Row}
use Rattle.pawn_tables.specs.PledgeRows.{IsRowDecodable, row_of}
use Rattle.pawn_tables.specs.Rows.{at_most_one, pledge_cells}
use Rattle.pawn_tables.specs.declared.records.PledgeRow.{PledgeRow}
use Rattle.std.proofs.Common.{List, Option, Some, None, get_or, option_map}
use Rattle.pawn_tables.proofs.pledge_decoding.first_pledge.Goals as goal

pub returns-in_err-pledge_row : goal.returns-in_err-pledge_row
returns-in_err-pledge_row c = record {
  read = λ p are. let e = first_err pledge_cells IsRowDecodable c.args.rows.now c.row-item.result _ c.row-item.is
      (let some = c.in-len1-up.len_at_least in omega (arith, some))
      (λ x is. read_other _ _ x _ _ (λ (told : IsRowDecodable x). record { opening = told.opening; taken = told.taken; last = told.last; closed = told.closed })
      (c.in_err-pledge_row.ensures.read (pledge_item x) [] is)) p are in
      let r = read_other _ p (option_map row_of p) _ _ (λ told. told) e in search rules;
}

-- the first row, decoded
first_is : (told : PledgeRow) (r : Row) (p : Option PledgeValue) → ((x : PledgeValue) → r ≡ pledge_cells x → told ≡ row_of x) → (rows : List Row)
    → r ≡ get_or rows 0 r → 0 < length rows → rows ≡ at_most_one pledge_cells p → Some told ≡ option_map row_of p
first_is told r None read rows is some are = absurd (let none = ap length are in omega (arith, some, none))
first_is told r (Some x) read rows is some are = ap Some (read x (is ∙ ap (λ rs. get_or rs 0 r) are))

pub returns : goal.returns
returns c = record {
  read = λ p are. first_is c.in_ok-pledge_row.field-0 c.row-item.result p (λ x is. c.in_ok-pledge_row.ensures.read
      (pledge_item x) [] is) c.args.rows.now c.row-item.is (let some = c.in-len1-up.len_at_least in omega (arith, some)) are;
}
