use Rattle.pawn_tables.proofs.Lent.{debts_of}
use Rattle.pawn_tables.proofs.ReadTexts.{READ_TERMS, texts}
use Rattle.pawn_tables.proofs.Reading.{◌∙◌, terms_shown, found_debts, found_is}
use Rattle.pawn_tables.proofs.SoundReads.{terms_unsound}
use Rattle.pawn_tables.proofs.queries.terms_in.Goals as goal

pub returns-clause-debts : goal.returns-clause-debts
returns-clause-debts g c = found_debts _ _ _ _ _ c.first_terms.result _ READ_TERMS.now (λ more. (texts more).terms_is.2) c.in_ok-rows.ensures.lent.leaves
    (λ clean. rw (c.params-to_sql.ensures, c.params-to_sql-2.ensures) at (c.in_ok-rows.ensures.shown clean))
    (λ h st shown. found_is c.first_terms.result _ _ _ (c.first_terms.ensures.read _
    (c.deref.ensures.value ∙ terms_shown _ _ h c.args.book c.args.version _ st shown)) (terms_unsound h c.args.book c.args.version))

pub returns-clause-finds : goal.returns-clause-finds
returns-clause-finds g c clean within h stood = returns-clause-debts g c clean within h (λ was_open. debts_of _ h (stood was_open))
