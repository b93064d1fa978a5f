use Rattle.pawn_tables.proofs.ReadTexts.{READ_WINDOWS, texts}
use Rattle.pawn_tables.proofs.Reading.{map, ◌∙◌, get, pledges_of, found, found_as}
use Rattle.pawn_tables.proofs.WindowReads.{windows_shown}
use Rattle.pawn_tables.specs.Heads.{number_cells}
use Rattle.pawn_tables.specs.Lines.{NamesWindows}
use Rattle.pawn_tables.proofs.sheets.windows_in.Goals as goal

pub returns-clause-finds : goal.returns-clause-finds
returns-clause-finds g c = found _ _ _ _ _ c.read_numbers.result _ READ_WINDOWS.now (λ more. (texts more).windows_is.2) c.in_ok-rows.ensures.lent.leaves
    (λ clean. rw (c.params-to_sql.ensures, c.params-to_sql-2.ensures, c.count-day.ensures.value) at (c.in_ok-rows.ensures.shown clean)) (λ h st shown.
    let windows = windows_shown c.args.book c.args.day _ _ h _ st shown in let are = ◌∙◌ {c = map number_cells windows.0} c.deref.ensures.value windows.1 in
    found_as c.read_numbers.result windows.0 (NamesWindows c.args.day (pledges_of (get h.books c.args.book))) _ _
    (c.read_numbers.ensures.read windows.0 are) windows.2 (λ bad. absurd (bad tt)))
