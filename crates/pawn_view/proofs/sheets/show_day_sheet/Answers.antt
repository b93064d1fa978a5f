use Rattle.pawn_book.proofs.Reading.{reads_then}
use Rattle.pawn_view.proofs.SheetLemmas.{sheet_shows}
use Rattle.pawn_view.specs.Common.{get}
use Rattle.std.proofs.Common.{rules}
use Rattle.pawn_view.proofs.sheets.show_day_sheet.Goals as goal

pub returns-clause-shows : goal.returns-clause-shows
returns-clause-shows g c = reads_then c.in_ok-head.ensures.reads c.put_day-done.ensures.shares (λ h said share. sheet_shows g.W.Write.contents c.args.writer.now
    c.put_day.new.writer c.put_day-done.new.self.writer.now _ c.args.day (get h.books c.args.book) c.in-Some.head c.put_day-done.result c.result_of_text.result
    c.requires.fine c.result_of_text.ensures.answer (rw c.in-Some.is at said) c.put_day.ensures.puts share (search rules))
