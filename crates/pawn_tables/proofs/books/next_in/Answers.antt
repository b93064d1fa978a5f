use Rattle.pawn_tables.proofs.BookReads.{is_next, next_shown}
use Rattle.pawn_tables.proofs.Lent.{debts_of}
use Rattle.pawn_tables.proofs.ReadTexts.{FIND_NEXT_BOOK, texts}
use Rattle.pawn_tables.proofs.Reading.{◌∙◌, IsNextBook, found_as, found_debts}
use Rattle.pawn_tables.proofs.SoundBooks.{next_unsound}
use Rattle.pawn_tables.proofs.books.next_in.Goals as goal

pub returns-clause-debts : goal.returns-clause-debts
returns-clause-debts g c = found_debts _ _ _ _ _ c.first_number.result _ FIND_NEXT_BOOK.now (λ more. (texts more).next_is.2) c.in_ok-rows.ensures.lent.leaves
    (λ clean. rw c.params-to_sql.ensures at (c.in_ok-rows.ensures.shown clean)) (λ h st shown. found_as c.first_number.result _ (IsNextBook h c.args.above) _ _
    (c.first_number.ensures.read _ (c.deref.ensures.value ∙ next_shown _ _ h c.args.above _ st shown)) (is_next h c.args.above) (next_unsound h c.args.above))

pub returns-clause-finds : goal.returns-clause-finds
returns-clause-finds g c clean within h stood = returns-clause-debts g c clean within h (λ was_open. debts_of _ h (stood was_open))
