use Rattle.pawn_tables.proofs.ReadTexts.{READ_TOTALS, texts}
use Rattle.pawn_tables.proofs.Reading.{◌∙◌, totals_shown, found, found_is}
use Rattle.pawn_tables.proofs.SoundReads.{totals_unsound}
use Rattle.pawn_tables.proofs.queries.totals_in.Goals as goal

pub returns-clause-finds : goal.returns-clause-finds
returns-clause-finds g c = found _ _ _ _ _ c.first_totals.result _ READ_TOTALS.now (λ more. (texts more).totals_is.2) c.in_ok-rows.ensures.lent.leaves
    (λ clean. rw (c.params-to_sql.ensures, c.params-to_sql-2.ensures) at (c.in_ok-rows.ensures.shown clean))
    (λ h st shown. found_is c.first_totals.result _ _ _ (c.first_totals.ensures.read _
    (c.deref.ensures.value ∙ totals_shown _ _ h c.args.book c.args.number _ st shown)) (totals_unsound h st.storable c.args.book c.args.number))
