use Rattle.pawn_book.proofs.Reading.{reads_as, reads_then}
use Rattle.pawn_view.proofs.PresentedLemmas.{shown_statement}
use Rattle.pawn_view.specs.Common.{call_end, get, pledge_in}
use Rattle.pawn_writing.proofs.PutLemmas.{puts_nil}
use Rattle.std.proofs.Common.{[], refl}
use Rattle.pawn_view.proofs.receipts.put_shown.Goals as goal

pub returns-in-Ok-Some-clause-shares : goal.returns-in-Ok-Some-clause-shares
returns-in-Ok-Some-clause-shares g c = reads_then c.live_further_brief.ensures.reads c.put_statement.ensures.shares
    (λ h said share sound known. shown_statement g.W.Write.contents c.args.writer.now c.put_statement.new.writer c.args.day
    (pledge_in (get h.books c.args.book)) c.args.receipt.now c.in-Ok-Some.brief (call_end c.put_statement.result)
    (rw (c.in-Ok-Some.is, c.in-Ok-Some.field-0-is) at (said sound known)) (share sound))

pub returns-in-Err-clause-shares : goal.returns-in-Err-clause-shares
returns-in-Err-clause-shares g c = reads_as c.live_further_brief.ensures.reads
    (λ h said sound known. ([], _, refl, puts_nil g.W.Write.contents c.args.writer.now, λ fine done. cc))
