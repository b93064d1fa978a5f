use Rattle.pawn_tables.proofs.RowReading.{[], rules, IsDayNumber, Issued, IsWord, placed_err, placed_more, placed_whole}
use Rattle.pawn_tables.specs.Rows.{secret_cells}
use Rattle.pawn_tables.proofs.list_decoding.read_secrets.Goals as goal

pub loop-row-preserved : goal.loop-row-preserved
loop-row-preserved c =
    placed_more (secret_cells) (λ (i : Issued). IsWord i.secret) (λ (i : Issued). IsDayNumber i.day) c.args.rows.now c.loop-row.row-index c.loop-row.secrets
    c.push.new.self c.row-item.result c.in_ok-issued.issued c.loop-row-test.true c.row-item.is (search rules)
    (λ place i fits is. c.in_ok-issued.ensures.read place i [] fits is) c.loop-row.invariant

pub returns-in_err-issued : goal.returns-in_err-issued
returns-in_err-issued c = record {
  read = λ from is words are. let e =
      placed_err (secret_cells) (λ (i : Issued). IsWord i.secret) (λ (i : Issued). IsDayNumber i.day) c.args.rows.now c.loop-row.row-index c.row-item.result _
      c.loop-row-test.true c.row-item.is (λ place i fits is. c.in_err-issued.ensures.read place i [] fits is) from is words are in search rules;
}

pub returns : goal.returns
returns c = record {
  read = λ from is words are. placed_whole (secret_cells)
      (λ (i : Issued). IsWord i.secret) c.args.rows.now c.loop-row.row-index c.loop-row.secrets (search rules) c.loop-row.invariant from is words are;
}
