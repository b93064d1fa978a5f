use Rattle.pawn_tables.proofs.BookReads.{head_shown}
use Rattle.pawn_tables.proofs.ReadTexts.{READ_HEAD, texts}
use Rattle.pawn_tables.proofs.Reading.{◌∙◌, found, found_is}
use Rattle.pawn_tables.proofs.SoundBooks.{head_unsound, keys_in}
use Rattle.pawn_tables.proofs.books.head_in.Goals as goal

pub returns-clause-finds : goal.returns-clause-finds
returns-clause-finds g c = found _ _ _ _ _ c.first_head.result _ READ_HEAD.now (λ more. (texts more).head_is.2) c.in_ok-rows.ensures.lent.leaves
    (λ clean. rw c.params-to_sql.ensures at (c.in_ok-rows.ensures.shown clean)) (λ h st shown. found_is c.first_head.result _ _ _ (c.first_head.ensures.read _
    (keys_in h c.args.book st.storable) (c.deref.ensures.value ∙ head_shown _ _ h c.args.book _ st shown)) (head_unsound h c.args.book))
