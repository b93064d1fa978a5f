use Rattle.pawn_tables.proofs.ReadTexts.{READ_CREDIT, texts}
use Rattle.pawn_tables.proofs.Reading.{◌∙◌, credit_shown, found_debts, found_is}
use Rattle.pawn_tables.proofs.SoundReads.{credit_unsound}
use Rattle.pawn_tables.proofs.credits.credit_in.Goals as goal

pub returns-clause-finds : goal.returns-clause-finds
returns-clause-finds g c = found_debts _ _ _ _ _ c.first_credit.result _ READ_CREDIT.now (λ more. (texts more).credit_is.2) c.in_ok-rows.ensures.lent.leaves
    (λ clean. rw (c.params-to_sql.ensures, c.params-to_sql-2.ensures) at (c.in_ok-rows.ensures.shown clean))
    (λ h st shown. found_is c.first_credit.result _ _ _ (c.first_credit.ensures.read _
    (c.deref.ensures.value ∙ credit_shown _ _ h c.args.book c.args.number _ st shown)) (credit_unsound h st.storable c.args.book c.args.number))
