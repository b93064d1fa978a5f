use Rattle.pawn_tables.proofs.RowReading.{ap, arith, length, refl, rules, ◌<◌, ◌∙◌, ◌≡◌, IsNumber, line_cells, Line}
use Rattle.pawn_tables.proofs.RowReading.{always_read, cell_at}
use Rattle.pawn_tables.specs.Common.{Row, column, SheetPart}
use Rattle.pawn_tables.specs.Rows.{number}
use Rattle.pawn_book.specs.declared.sheet.SheetPart.TheVariants as part_of
use Rattle.pawn_tables.proofs.lines.line_of.Goals as goal

-- the number of a line stands first in its row
first_cell : (part : SheetPart) (l : Line) (row : Row) → row ≡ line_cells part l → (0 < length row) × (column row 0 ≡ number l.number)
first_cell (part_of.Confirmed window) l row is = cell_at 0 is (omega arith) refl
first_cell part_of.Asked l row is = cell_at 0 is (omega arith) refl
first_cell part_of.Ends l row is = cell_at 0 is (omega arith) refl

pub returns-in_err-number_at : goal.returns-in_err-number_at
returns-in_err-number_at c = record {
  read = λ l such is. let at = first_cell c.args.part l c.args.row.now is in
      let e = always_read c.in_err-number_at.field-0.0 l.number l (IsNumber l.number) (c.in_err-number_at.ensures.read l.number at.0 at.1) in
      search rules;
}

pub returns-in_err-window-in-Asked : goal.returns-in_err-window-in-Asked
returns-in_err-window-in-Asked c = record {
  read = λ l such is. let asked = is ∙ ap (λ part. line_cells part l) c.in-Asked.is in let at = cell_at 1 asked (omega arith) refl in
      let e = always_read c.in_err-window-in-Asked.field-0.0 l.window l (IsNumber l.number) (c.in_err-window-in-Asked.ensures.read l.window at.0 at.1) in
      search rules;
}
