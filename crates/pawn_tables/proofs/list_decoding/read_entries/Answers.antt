use Rattle.pawn_tables.proofs.RowReading.{[], rules, ℕ, ◌∙◌, Entry, IsEntryDecodable, each_any, mapped, placed_err, placed_more}
use Rattle.pawn_tables.proofs.RowReading.{placed_whole}
use Rattle.pawn_tables.specs.Rows.{entry_cells}
use Rattle.pawn_tables.proofs.list_decoding.read_entries.Goals as goal

pub loop-row-preserved : goal.loop-row-preserved
loop-row-preserved c =
    placed_more (λ (place : ℕ) (e : Entry). entry_cells e) (λ (e : Entry). Unit {0}) IsEntryDecodable c.args.rows.now c.loop-row.row-index c.loop-row.entries
    c.push.new.self c.row-item.result c.in_ok-entry.entry c.loop-row-test.true c.row-item.is (search rules)
    (λ place e any is. c.in_ok-entry.ensures.read e [] is) c.loop-row.invariant

pub returns-in_err-entry : goal.returns-in_err-entry
returns-in_err-entry c = record {
  read = λ es are. let e = placed_err (λ (place : ℕ) (e : Entry). entry_cells e)
      (λ (e : Entry). Unit {0}) IsEntryDecodable c.args.rows.now c.loop-row.row-index c.row-item.result _ c.loop-row-test.true c.row-item.is
      (λ place e any is. c.in_err-entry.ensures.read e [] is) 1 es (each_any es) (are ∙ mapped entry_cells 1 es) in search rules;
}

pub returns : goal.returns
returns c = record {
  read = λ es are. placed_whole (λ (place : ℕ) (e : Entry). entry_cells e) (λ (e : Entry). Unit {0}) c.args.rows.now c.loop-row.row-index c.loop-row.entries
      (search rules) c.loop-row.invariant 1 es (each_any es) (are ∙ mapped entry_cells 1 es);
}
