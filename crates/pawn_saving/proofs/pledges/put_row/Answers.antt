use Rattle.pawn_pledge.specs.declared.record.Agreement.{Agreement}
use Rattle.pawn_pledge.specs.declared.record.Standing.{Standing}
use Rattle.pawn_saving.proofs.StatementWrites.{bound_number, bound_optional, on_ran, row_wrote, bound_value}
use Rattle.pawn_saving.proofs.Writing.{ap, [], ◌∷◌, ◌∙◌, number}
use Rattle.pawn_tables.specs.Common.{Text, credit_of}
use Rattle.pawn_tables.specs.Rows.{closed_amount, closed_day, closed_number, flag_number, kind_number, or_null}
use Rattle.pawn_saving.proofs.pledges.put_row.Goals as goal

pub returns-clause-wrote : goal.returns-clause-wrote
returns-clause-wrote g c clean within listed st = let p = c.args.pledge.now in
    let a = c.agreement-agreement.ensures.value in
    let s = c.standing-standing.ensures.value in
    on_ran c.write.result _ _ (c.write.ensures.ran clean within) (λ count. row_wrote _ _ listed st count c.args.book c.args.number p (λ i.
    ap bound_value c.params-to_sql.ensures i ∷ ap bound_value c.params-to_sql-2.ensures i
    ∷ ap bound_value (c.params-to_sql-3.ensures ∙ ap Text (c.as_str-reference.ensures.value ∙ ap (λ (x : Agreement). x.opening.reference) a)) i
    ∷ ap bound_value (c.params-to_sql-4.ensures ∙ ap Text (c.as_str-article.ensures.value ∙ ap (λ (x : Agreement). x.opening.article) a)) i
    ∷ bound_number c.params-to_sql-5.ensures (c.kind_number-kind.ensures.value ∙ ap (λ (x : Agreement). kind_number x.opening.kind) a) i
    ∷ bound_number c.params-to_sql-6.ensures (c.in_ok-credit.ensures.value ∙ c.credit.ensures.value ∙ ap (λ (x : Agreement). credit_of x.opening.kind) a) i
    ∷ bound_number c.params-to_sql-7.ensures (c.count-taken.ensures.value ∙ ap (λ (x : Agreement). x.taken) a) i
    ∷ bound_optional p.agreement.opening.agreed
    (c.params-to_sql-8.ensures ∙ c.agreed_value-agreed.ensures.value ∙ ap (λ (x : Agreement). or_null number x.opening.agreed) a) i
    ∷ bound_number c.params-to_sql-9.ensures (c.flag_number-five.ensures.value ∙ ap (λ (x : Agreement). flag_number x.opening.five_days) a) i
    ∷ bound_number c.params-to_sql-10.ensures (c.in_ok-version.ensures.value ∙ ap (λ (x : Agreement). x.version) a) i
    ∷ bound_number c.params-to_sql-11.ensures (c.count-ends.ensures.value ∙ c.ends.ensures.value) i
    ∷ bound_number c.params-to_sql-12.ensures (c.flag_number-held.ensures.value ∙ ap (λ (x : Standing). flag_number x.held) s) i
    ∷ bound_number c.params-to_sql-13.ensures (c.count-last.ensures.value ∙ ap (λ (x : Standing). x.last) s) i
    ∷ bound_number c.params-to_sql-14.ensures (c.closed_number-closed.ensures.value ∙ ap (λ (x : Standing). closed_number x.closing) s) i
    ∷ bound_optional (closed_day p.standing.closing)
    (c.params-to_sql-15.ensures ∙ c.closed_day-closed_on.ensures.value ∙ ap (λ (x : Standing). or_null number (closed_day x.closing)) s) i
    ∷ bound_optional (closed_amount p.standing.closing)
    (c.params-to_sql-16.ensures ∙ c.in_ok-amount.ensures.value ∙ ap (λ (x : Standing). or_null number (closed_amount x.closing)) s) i ∷ []))
