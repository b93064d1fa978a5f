use Rattle.pawn_tables.proofs.LineReads.{confirmed_shown}
use Rattle.pawn_tables.proofs.ReadTexts.{COUNT_CONFIRMED, texts}
use Rattle.pawn_tables.proofs.Reading.{rules, ◌∙◌, ◌≡◌, found, found_is}
use Rattle.pawn_tables.proofs.books.confirmed_in.Goals as goal

pub returns-clause-finds : goal.returns-clause-finds
returns-clause-finds g c = found _ _ _ _ _ c.only_count.result _ COUNT_CONFIRMED.now (λ more. (texts more).confirmed_is.2) c.in_ok-rows.ensures.lent.leaves
    (λ clean. let window : c.in-Ok.slot ≡ c.args.window = search rules in
    rw (c.params-to_sql.ensures, c.params-to_sql-2.ensures, c.params-to_sql-3.ensures, c.count-day.ensures.value, window) at (c.in_ok-rows.ensures.shown clean))
    (λ h st shown. found_is c.only_count.result _ _ _
    (c.only_count.ensures.read _ (c.deref.ensures.value ∙ confirmed_shown c.args.book c.args.day c.args.window _ _ h _ st shown)) (λ bad. absurd (bad tt)))
