use Rattle.pawn_book.proofs.Reading.{reads_then}
use Rattle.pawn_view.proofs.PresentedLemmas.{live_first_shows, dead_first, rest_of, shows_all}
use Rattle.pawn_view.specs.Common.{get, live_at, pledge_in}
use Rattle.pawn_view.specs.Shown.{live_pledges}
use Rattle.pawn_view.proofs.receipts.show_presented.Goals as goal

pub returns-in-Some-clause-shows : goal.returns-in-Some-clause-shows
returns-in-Some-clause-shows g c = reads_then c.in_ok-brief.ensures.reads c.put_from-done.ensures.shares
    (λ h said share sound. shows_all g.W.Write.contents c.args.writer.now c.put_from-done.new.writer c.args.day (live_at (pledge_in (get h.books c.args.book)))
    c.args.receipts.now c.first-item.result c.result_of_text.result c.in-len1-up.len_at_least c.first-item.is
    (live_first_shows g.W.Write.contents c.args.writer.now
    c.put_from-done.new.writer c.args.day (pledge_in (get h.books c.args.book)) c.first-item.result (live_pledges h c.args.book (rest_of c.args.receipts.now))
    c.in-Some.brief c.put_from-done.result c.result_of_text.result c.requires.fine c.result_of_text.ensures.answer (rw c.in-Some.is at (said sound))
    (share sound)))

pub returns-in-None-clause-shows : goal.returns-in-None-clause-shows
returns-in-None-clause-shows g c = reads_then c.in_ok-brief.ensures.reads c.show_others.ensures.shows
    (λ h said shows sound. shows_all g.W.Write.contents c.args.writer.now c.show_others.new.writer c.args.day
    (live_at (pledge_in (get h.books c.args.book))) c.args.receipts.now c.first-item.result c.show_others.result c.in-len1-up.len_at_least c.first-item.is
    (dead_first g.W.Write.contents c.args.writer.now c.show_others.new.writer c.args.day (live_at (pledge_in (get h.books c.args.book)) c.first-item.result)
    (live_pledges h c.args.book (rest_of c.args.receipts.now)) c.show_others.result (rw c.in-None.is at (said sound)) (shows sound)))
