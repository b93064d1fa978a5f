use Rattle.pawn_csv.proofs.Basics.{reads_then}
use Rattle.pawn_csv.proofs.ExportLemmas.{book_exported}
use Rattle.pawn_csv.specs.Common.{get}
use Rattle.pawn_csv.proofs.exporting.export.Goals as goal

pub returns-clause-exports : goal.returns-clause-exports
returns-clause-exports g c = reads_then c.in_ok-head.ensures.reads c.put_rows-done.ensures.shares (λ h said share sound. book_exported g.W.Write.contents
    c.args.rows.now.sink c.put_header.new.sink c.put_book.new.sink c.put_rows-done.new.rows.sink (get h.books c.args.book) c.in-Some.head c.put_rows-done.result
    c.result_of_export.result c.requires.fine c.result_of_export.ensures.answer
    (rw c.in-Some.is at said) c.put_header.ensures.puts c.put_book.ensures.puts share)
