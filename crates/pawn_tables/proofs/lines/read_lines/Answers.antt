use Rattle.pawn_tables.proofs.RowReading.{rules, ℕ, ◌∙◌, IsNumber, IsLineOf, line_cells, Line, mapped, placed_err}
use Rattle.pawn_tables.proofs.RowReading.{placed_more, placed_whole}
use Rattle.pawn_tables.proofs.lines.read_lines.Goals as goal

pub loop-row-preserved : goal.loop-row-preserved
loop-row-preserved c = placed_more (λ (place : ℕ) (x : Line). line_cells c.args.part x) (IsLineOf c.args.part) (λ (x : Line). IsNumber x.number) c.args.rows.now
    c.loop-row.row-index c.loop-row.lines c.push.new.self c.row-item.result c.in_ok-line.line c.loop-row-test.true c.row-item.is (search rules)
    (λ place x such is. c.in_ok-line.ensures.read x such is) c.loop-row.invariant

pub returns-in_err-line : goal.returns-in_err-line
returns-in_err-line c = record {
  read = λ ls such are.
      let e = placed_err (λ (place : ℕ) (x : Line). line_cells c.args.part x) (IsLineOf c.args.part)
      (λ (x : Line). IsNumber x.number) c.args.rows.now c.loop-row.row-index c.row-item.result _ c.loop-row-test.true c.row-item.is
      (λ place x such is. c.in_err-line.ensures.read x such is) 1 ls such (are ∙ mapped (line_cells c.args.part) 1 ls) in
      search rules;
}

pub returns : goal.returns
returns c = record {
  read = λ ls such are. placed_whole (λ (place : ℕ) (x : Line). line_cells c.args.part x) (IsLineOf c.args.part) c.args.rows.now
      c.loop-row.row-index c.loop-row.lines (search rules) c.loop-row.invariant 1 ls such (are ∙ mapped (line_cells c.args.part) 1 ls);
}
