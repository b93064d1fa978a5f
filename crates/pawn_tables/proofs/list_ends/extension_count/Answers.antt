use Rattle.pawn_tables.proofs.ListEndReads.{place_count, place_shown}
use Rattle.pawn_tables.proofs.ReadTexts.{READ_LAST_PLACE, texts}
use Rattle.pawn_tables.proofs.Reading.{length, ℕ, ◌∙◌, ◌≡◌, get, pledge_in, extensions_of, found, found_as}
use Rattle.pawn_tables.proofs.list_ends.extension_count.Goals as goal

pub returns-clause-finds : goal.returns-clause-finds
returns-clause-finds g c = found _ _ _ _ _ c.first_number.result _ READ_LAST_PLACE.now (λ more. (texts more).last_place_is.2) c.in_ok-rows.ensures.lent.leaves
    (λ clean. rw (c.params-to_sql.ensures, c.params-to_sql-2.ensures) at (c.in_ok-rows.ensures.shown clean)) (λ h st shown.
    let es = extensions_of (pledge_in (get h.books c.args.book) c.args.number) in let counted : ℕ → Type 0 = λ count. count ≡ length es in
    found_as c.first_number.result _ counted _ _ (c.first_number.ensures.read _
    (c.deref.ensures.value ∙ place_shown _ _ h c.args.book c.args.number _ st shown))
    (place_count es) (λ bad. absurd (bad tt)))
