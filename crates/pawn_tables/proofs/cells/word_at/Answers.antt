use Rattle.pawn_tables.proofs.Words.{word_read}
use Rattle.std.proofs.Common.{rules, ◌∙◌}
use Rattle.pawn_tables.proofs.cells.word_at.Goals as goal

pub returns-in-Ok-from_slice : goal.returns-in-Ok-from_slice
returns-in-Ok-from_slice c = record {
  read = λ w within fits shown. c.of_word.ensures.value
      ∙ word_read _ c.in-Ok.blob.items c.in-Ok-from_slice.id _ w c.in-Ok.ensures.ok.1 (search rules) c.as_u128.ensures fits shown;
}
