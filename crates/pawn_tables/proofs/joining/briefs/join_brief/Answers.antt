use Rattle.pawn_tables.proofs.RowReading.{rules, IsDayNumber, end_of, read_part}
use Rattle.pawn_tables.specs.ListEnds.{stored_brief}
use Rattle.pawn_tables.specs.PledgeRows.{HasSecret, IsBriefDecodable}
use Rattle.pawn_tables.proofs.joining.briefs.join_brief.Goals as goal

pub returns-in_err-fields : goal.returns-in_err-fields
returns-in_err-fields c = record {
  read = λ p number row related list_ends.
      let e = read_part c.in_err-fields.field-0.0 (stored_brief p) (HasSecret p × IsDayNumber (end_of p)) (IsBriefDecodable p)
      (λ told. (told.secret, told.ends))
      (c.in_err-fields.ensures.read p number row related list_ends) in search rules;
}
