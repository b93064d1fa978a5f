use Rattle.pawn_tables.proofs.RowReading.{Err, arith, refl, rules, ℕ, ⊤, ◌∙◌, number_cells, always_all, each_any}
use Rattle.pawn_tables.proofs.RowReading.{mapped, placed_err, placed_more, placed_whole, cell_at}
use Rattle.pawn_tables.specs.Finding.{IsRead}
use Rattle.pawn_tables.proofs.lines.read_numbers.Goals as goal

pub loop-row-preserved : goal.loop-row-preserved
loop-row-preserved c =
    placed_more (λ (place : ℕ) (n : ℕ). number_cells n) (λ (n : ℕ). Unit {0}) (λ (n : ℕ). Unit {0}) c.args.rows.now c.loop-row.row-index c.loop-row.numbers
    c.push.new.self c.row-item.result c.in_ok-number.number c.loop-row-test.true c.row-item.is (search rules)
    (λ place n any is. let at = cell_at 0 is (omega arith) refl in c.in_ok-number.ensures.read n at.0 at.1) c.loop-row.invariant

pub returns-in_err-number : goal.returns-in_err-number
returns-in_err-number c = record {
  read = λ ns are.
      let first : IsRead (Err c.in_err-number.field-0.0) ns ⊤ =
      always_all c.in_err-number.field-0.0 ns ns ⊤ (placed_err (λ (place : ℕ) (n : ℕ). number_cells n) (λ (n : ℕ). Unit {0})
      (λ (n : ℕ). Unit {0}) c.args.rows.now c.loop-row.row-index c.row-item.result _ c.loop-row-test.true c.row-item.is (λ place n any is. let at =
      cell_at 0 is (omega arith) refl in c.in_err-number.ensures.read n at.0 at.1) 1 ns (each_any ns) (are ∙ mapped number_cells 1 ns)) in
      search rules;
}

pub returns : goal.returns
returns c = record {
  read = λ ns are. placed_whole (λ (place : ℕ) (n : ℕ). number_cells n) (λ (n : ℕ). Unit {0}) c.args.rows.now c.loop-row.row-index c.loop-row.numbers
      (search rules) c.loop-row.invariant 1 ns (each_any ns) (are ∙ mapped number_cells 1 ns);
}
