use Rattle.pawn_tables.proofs.LineReads.{asked_shown, confirmed_items, ends_shown}
use Rattle.pawn_tables.proofs.ReadTexts.{COUNT_ASKED, COUNT_ENDS, texts}
use Rattle.pawn_tables.proofs.Reading.{length, ℕ, ◌∙◌, ◌≡◌, get, state, pledges_of, found, found_is}
use Rattle.pawn_tables.proofs.SoundBooks.{finds_as}
use Rattle.pawn_tables.specs.Common.{confirmed_count, part_items, IsUnsoundAt, Rests}
use Rattle.pawn_book.specs.declared.sheet.SheetPart.TheVariants as part_of
use Rattle.pawn_tables.proofs.sheets.count_in.Goals as goal

pub returns-in-Confirmed-clause-finds : goal.returns-in-Confirmed-clause-finds
returns-in-Confirmed-clause-finds g c clean within h stood = let ps = pledges_of (get h.books c.args.book) in
    let window = c.in-Confirmed.window in let counted : ℕ → Type 0 = λ count. count ≡ confirmed_count ps c.args.day window in
    let listed : ℕ → Type 0 = λ count. count ≡ length (part_items (part_of.Confirmed window) c.args.day ps) in
    rw c.in-Confirmed.is
    (finds_as c.confirmed_in.result counted listed (Rests (state g.S.Store c.args.tx.now.conn.now) (state g.S.Store c.confirmed_in.new.tx.conn.now))
    (IsUnsoundAt c.args.book h) (λ count is. is ∙ confirmed_items ps c.args.day window) (c.confirmed_in.ensures.finds clean within h stood))

pub returns-in_ok-asked-in-Asked-clause-finds : goal.returns-in_ok-asked-in-Asked-clause-finds
returns-in_ok-asked-in-Asked-clause-finds g c =
    rw c.in-Asked.is (found _ _ _ _ _ c.only_count.result _ COUNT_ASKED.now (λ more. (texts more).asked_is.2) c.in_ok-asked-in-Asked.ensures.lent.leaves
    (λ clean. rw (c.params-to_sql.ensures, c.params-to_sql-in-Asked.ensures, c.count-count.ensures.value) at (c.in_ok-asked-in-Asked.ensures.shown clean))
    (λ h st shown. found_is c.only_count.result _ _ _
    (c.only_count.ensures.read _ (c.deref.ensures.value ∙ asked_shown c.args.book c.args.day _ _ h _ st shown)) (λ bad. absurd (bad tt))))

pub returns-in_ok-ends-in-Ends-clause-finds : goal.returns-in_ok-ends-in-Ends-clause-finds
returns-in_ok-ends-in-Ends-clause-finds g c =
    rw c.in-Ends.is (found _ _ _ _ _ c.only_count-in-Ends.result _ COUNT_ENDS.now (λ more. (texts more).ends_is.2) c.in_ok-ends-in-Ends.ensures.lent.leaves
    (λ clean. rw (c.params-to_sql-in-Ends.ensures, c.params-to_sql-in-Ends-2.ensures, c.count-count.ensures.value) at
    (c.in_ok-ends-in-Ends.ensures.shown clean)) (λ h st shown. found_is c.only_count-in-Ends.result _ _ _
    (c.only_count-in-Ends.ensures.read _ (c.deref-in-Ends.ensures.value ∙ ends_shown c.args.book c.args.day _ _ h _ st shown)) (λ bad. absurd (bad tt))))
