use Rattle.pawn_book.proofs.Reading.{reads_then}
use Rattle.pawn_view.proofs.PresentedLemmas.{dead_first_shows}
use Rattle.pawn_view.specs.Common.{are_unknown}
use Rattle.pawn_view.specs.Shown.{live_pledges}
use Rattle.pawn_view.proofs.receipts.show_others.Goals as goal

pub returns-clause-shows : goal.returns-clause-shows
returns-clause-shows g c = reads_then c.in_ok-known.ensures.reads c.put_further-done.ensures.shares
    (λ h said share sound. let found = rw c.in-Some.is at (said sound) in dead_first_shows g.W.Write.contents c.args.writer.now c.put.new.writer
    c.put_further-done.new.writer c.args.day (live_pledges h c.args.book c.args.receipts.now) (are_unknown (live_pledges h c.args.book c.args.receipts.now))
    c.put_further-done.result c.result_of_text.result
    c.requires.fine c.result_of_text.ensures.answer found.0 c.put.ensures.puts (share sound found.1))
