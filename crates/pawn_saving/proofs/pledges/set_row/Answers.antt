use Rattle.pawn_pledge.specs.declared.record.Standing.{Standing}
use Rattle.pawn_saving.proofs.PledgeStatements.{row_set}
use Rattle.pawn_saving.proofs.StatementWrites.{bound_number, bound_optional, on_ran, bound_value}
use Rattle.pawn_saving.proofs.Writing.{ap, [], ◌∷◌, ◌∙◌, number}
use Rattle.pawn_tables.specs.Rows.{closed_amount, closed_day, closed_number, flag_number, or_null}
use Rattle.pawn_saving.proofs.pledges.set_row.Goals as goal

pub returns-clause-wrote : goal.returns-clause-wrote
returns-clause-wrote g c before agreed clean within listed rest only st = let s = c.standing-standing.ensures.value in
    let p = c.args.pledge.now in
    on_ran c.write.result _ _ (c.write.ensures.ran clean within) (λ count. row_set _ _ listed st count c.args.book c.args.number before p rest agreed (λ i.
    ap bound_value c.params-to_sql.ensures i ∷ ap bound_value c.params-to_sql-2.ensures i
    ∷ bound_number c.params-to_sql-3.ensures (c.count-ends.ensures.value ∙ c.ends.ensures.value) i
    ∷ bound_number c.params-to_sql-4.ensures (c.flag_number-held.ensures.value ∙ ap (λ (x : Standing). flag_number x.held) s) i
    ∷ bound_number c.params-to_sql-5.ensures (c.count-last.ensures.value ∙ ap (λ (x : Standing). x.last) s) i
    ∷ bound_number c.params-to_sql-6.ensures (c.closed_number-closed.ensures.value ∙ ap (λ (x : Standing). closed_number x.closing) s) i
    ∷ bound_optional (closed_day p.standing.closing)
    (c.params-to_sql-7.ensures ∙ c.closed_day-closed_on.ensures.value ∙ ap (λ (x : Standing). or_null number (closed_day x.closing)) s) i
    ∷ bound_optional (closed_amount p.standing.closing)
    (c.params-to_sql-8.ensures ∙ c.in_ok-amount.ensures.value ∙ ap (λ (x : Standing). or_null number (closed_amount x.closing)) s) i ∷ []) only)
