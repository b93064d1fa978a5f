use Rattle.pawn_tables.proofs.ReadTexts.{READ_PLEDGE, texts}
use Rattle.pawn_tables.proofs.Reading.{◌∙◌, pledge_shown, found, found_is}
use Rattle.pawn_tables.proofs.SoundReads.{row_unsound}
use Rattle.pawn_tables.proofs.queries.row_in.Goals as goal

pub returns-clause-finds : goal.returns-clause-finds
returns-clause-finds g c = found _ _ _ _ _ c.first_pledge.result _ READ_PLEDGE.now (λ more. (texts more).pledge_is.2) c.in_ok-rows.ensures.lent.leaves
    (λ clean. rw (c.params-to_sql.ensures, c.params-to_sql-2.ensures) at (c.in_ok-rows.ensures.shown clean))
    (λ h st shown. found_is c.first_pledge.result _ _ _ (c.first_pledge.ensures.read _
    (c.deref.ensures.value ∙ pledge_shown _ _ h c.args.book c.args.number _ st shown)) (row_unsound h st.storable c.args.book c.args.number))
