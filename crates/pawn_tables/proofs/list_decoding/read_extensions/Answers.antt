use Rattle.pawn_tables.proofs.RowReading.{[], rules, IsDayNumber, Extension, each_any, placed_err, placed_more}
use Rattle.pawn_tables.proofs.RowReading.{placed_whole}
use Rattle.pawn_tables.specs.Rows.{extension_cells}
use Rattle.pawn_tables.proofs.list_decoding.read_extensions.Goals as goal

pub loop-row-preserved : goal.loop-row-preserved
loop-row-preserved c = placed_more (extension_cells) (λ (e : Extension). Unit {0}) (λ (e : Extension). IsDayNumber e.day × IsDayNumber e.until) c.args.rows.now
    c.loop-row.row-index c.loop-row.extensions c.push.new.self c.row-item.result c.in_ok-extension.extension c.loop-row-test.true c.row-item.is (search rules)
    (λ place e any is. c.in_ok-extension.ensures.read place e [] is) c.loop-row.invariant

pub returns-in_err-extension : goal.returns-in_err-extension
returns-in_err-extension c = record {
  read = λ from es are. let e = placed_err (extension_cells) (λ (e : Extension). Unit {0})
      (λ (e : Extension). IsDayNumber e.day × IsDayNumber e.until) c.args.rows.now c.loop-row.row-index c.row-item.result _ c.loop-row-test.true c.row-item.is
      (λ place e any is. c.in_err-extension.ensures.read place e [] is) from es (each_any es) are in search rules;
}

pub returns : goal.returns
returns c = record {
  read = λ from es are. placed_whole (extension_cells)
      (λ (e : Extension). Unit {0}) c.args.rows.now c.loop-row.row-index c.loop-row.extensions (search rules) c.loop-row.invariant from es (each_any es) are;
}
