use Rattle.pawn_tables.proofs.BookReads.{rows_shown}
use Rattle.pawn_tables.proofs.ReadTexts.{READ_ROWS, texts}
use Rattle.pawn_tables.proofs.Reading.{◌∙◌, found, found_is}
use Rattle.pawn_tables.proofs.books.rows_in.Goals as goal

pub returns-clause-finds : goal.returns-clause-finds
returns-clause-finds g c = found _ _ _ _ _ c.only_number.result _ READ_ROWS.now
    (λ more. (texts more).rows_is.2) c.in_ok-rows.ensures.lent.leaves c.in_ok-rows.ensures.shown (λ h st shown. found_is c.only_number.result _ _ _
    (c.only_number.ensures.read _ (c.deref.ensures.value ∙ rows_shown _ _ h _ st shown)) (λ bad. absurd (bad tt)))
