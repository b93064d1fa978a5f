use Rattle.pawn_tables.proofs.RowReading.{min, rules, ⊤, most_counted, always_read}
use Rattle.pawn_tables.proofs.heads.only_count.Goals as goal

pub returns-in_err-count : goal.returns-in_err-count
returns-in_err-count c = record {
  read = λ n are. let e = always_read c.in_err-count.field-0.0 (min n most_counted) n ⊤ (c.in_err-count.ensures.read (min n most_counted) are) in search rules;
}
