use Rattle.pawn_book.proofs.Reading.{reads_then}
use Rattle.pawn_view.proofs.StatementLemmas.{statement_shows}
use Rattle.pawn_view.specs.Shown.{pledge_at}
use Rattle.pawn_view.proofs.statements.show_statement.Goals as goal

pub returns-clause-shows : goal.returns-clause-shows
returns-clause-shows g c = reads_then c.in_ok-brief.ensures.reads c.put_statement-done.ensures.shares
    (λ h said share sound. statement_shows g.W.Write.contents c.args.writer.now c.put_statement-done.new.writer c.args.day (pledge_at h c.args.book
    c.args.number) c.in-Some.brief c.put_statement-done.result c.result_of_text.result c.requires.fine c.result_of_text.ensures.answer
    (rw c.in-Some.is at (said sound))
    (share sound))
