use Rattle.pawn_tables.proofs.ReadTexts.{FIND_REFERENCE, texts}
use Rattle.pawn_tables.proofs.Reading.{◌∙◌, ref_shown, found, found_is}
use Rattle.pawn_tables.proofs.SoundBooks.{ref_unsound}
use Rattle.pawn_tables.proofs.books.ref_in.Goals as goal

pub returns-clause-finds : goal.returns-clause-finds
returns-clause-finds g c = found _ _ _ _ _ c.first_number.result _ FIND_REFERENCE.now (λ more. (texts more).ref_is.2) c.in_ok-rows.ensures.lent.leaves
    (λ clean. rw (c.params-to_sql.ensures, c.params-to_sql-2.ensures) at (c.in_ok-rows.ensures.shown clean))
    (λ h st shown. found_is c.first_number.result _ _ _ (c.first_number.ensures.read _
    (c.deref.ensures.value ∙ ref_shown h c.args.book c.args.reference.now _ _ _ st shown)) (ref_unsound h c.args.book c.args.reference.now))
