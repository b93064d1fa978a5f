use Rattle.pawn_tables.proofs.LineReads.{asked_numbers, asked_page_shown, asked_says, asked_told, confirmed_numbers}
use Rattle.pawn_tables.proofs.LineReads.{confirmed_page_shown, confirmed_says, confirmed_told, ends_numbers}
use Rattle.pawn_tables.proofs.LineReads.{ends_page_shown, ends_says, ends_told}
use Rattle.pawn_tables.proofs.NextLines.{lines_found}
use Rattle.pawn_tables.proofs.ReadTexts.{READ_ASKED_PAGE, READ_CONFIRMED_PAGE, READ_ENDS_PAGE, texts}
use Rattle.pawn_tables.proofs.Reading.{ap, map, refl, rules, sym, ◌∙◌, ◌≡◌, found}
use Rattle.pawn_tables.specs.Lines.{asked_line, confirmed_line, ends_line, line_cells}
use Rattle.pawn_book.specs.declared.sheet.SheetPart.TheVariants as part_of
use Rattle.pawn_tables.proofs.sheets.lines_page.Goals as goal

pub returns-in_ok-rows-in-Confirmed-clause-finds : goal.returns-in_ok-rows-in-Confirmed-clause-finds
returns-in_ok-rows-in-Confirmed-clause-finds g c = let window = c.in-Confirmed.window in
    rw c.in-Confirmed.is (found _ _ _ _ _ c.read_lines.result _ READ_CONFIRMED_PAGE.now (λ more. (texts more).confirmed_page_is.2)
    c.in_ok-rows-in-Confirmed.ensures.lent.leaves (λ clean. let slot : c.in-Ok.slot ≡ c.in-Confirmed.window = search rules in
    rw (c.params-to_sql-in-Confirmed-3.ensures, c.count-day.ensures.value, slot) at
    (rw (c.params-to_sql.ensures, c.params-to_sql-in-Confirmed.ensures, c.params-to_sql-in-Confirmed-2.ensures) at
    (c.in_ok-rows-in-Confirmed.ensures.shown clean))) (λ h st shown. lines_found (part_of.Confirmed window) c.args.day (confirmed_told c.args.day window)
    (confirmed_line window) (confirmed_says c.args.day window) (confirmed_numbers c.args.day window)
    h c.args.book c.args.above st.ordered (λ n. refl) c.read_lines.result (λ lines are each. c.read_lines.ensures.read lines each (c.deref.ensures.value
    ∙ confirmed_page_shown c.args.book c.args.above c.args.day window _ _ h _ st shown ∙ sym (ap (map (line_cells (part_of.Confirmed window))) are)))))

pub returns-in_ok-asked-in-Asked-clause-finds : goal.returns-in_ok-asked-in-Asked-clause-finds
returns-in_ok-asked-in-Asked-clause-finds g c = rw c.in-Asked.is
    (found _ _ _ _ _ c.read_lines-in-Asked.result _ READ_ASKED_PAGE.now (λ more. (texts more).asked_page_is.2) c.in_ok-asked-in-Asked.ensures.lent.leaves
    (λ clean. rw (c.params-to_sql-in-Asked.ensures, c.params-to_sql-in-Asked-2.ensures, c.params-to_sql-in-Asked-3.ensures, c.count-day.ensures.value) at
    (c.in_ok-asked-in-Asked.ensures.shown clean))
    (λ h st shown. lines_found part_of.Asked c.args.day (asked_told c.args.day) asked_line (asked_says c.args.day) (asked_numbers c.args.day)
    h c.args.book c.args.above st.ordered (λ a. tt) c.read_lines-in-Asked.result (λ lines are each. c.read_lines-in-Asked.ensures.read lines each
    (c.deref-in-Asked.ensures.value ∙ asked_page_shown c.args.book c.args.above c.args.day _ _ h _ st shown ∙ sym (ap (map (line_cells part_of.Asked)) are)))))

pub returns-in_ok-ends-in-Ends-clause-finds : goal.returns-in_ok-ends-in-Ends-clause-finds
returns-in_ok-ends-in-Ends-clause-finds g c = rw c.in-Ends.is
    (found _ _ _ _ _ c.read_lines-in-Ends.result _ READ_ENDS_PAGE.now (λ more. (texts more).ends_page_is.2) c.in_ok-ends-in-Ends.ensures.lent.leaves
    (λ clean. rw (c.params-to_sql-in-Ends.ensures, c.params-to_sql-in-Ends-2.ensures, c.params-to_sql-in-Ends-3.ensures, c.count-day.ensures.value) at
    (c.in_ok-ends-in-Ends.ensures.shown clean))
    (λ h st shown. lines_found part_of.Ends c.args.day (ends_told c.args.day) ends_line (ends_says c.args.day) (ends_numbers c.args.day)
    h c.args.book c.args.above st.ordered (λ n. refl) c.read_lines-in-Ends.result (λ lines are each. c.read_lines-in-Ends.ensures.read lines each
    (c.deref-in-Ends.ensures.value ∙ ends_page_shown c.args.book c.args.above c.args.day _ _ h _ st shown ∙ sym (ap (map (line_cells part_of.Ends)) are)))))
