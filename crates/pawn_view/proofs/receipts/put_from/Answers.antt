use Rattle.pawn_book.proofs.Reading.{reads_as, reads_then}
use Rattle.pawn_book.proofs.Sounds.{has_terms}
use Rattle.pawn_view.proofs.PresentedLemmas.{statement_stops, statement_then}
use Rattle.pawn_view.specs.Common.{HasTermsOf, call_end, get}
use Rattle.pawn_view.specs.Shown.{live_pledges}
use Rattle.std.proofs.Common.{◌≡◌, Err, rules, subst, sym}
use Rattle.pawn_view.proofs.receipts.put_from.Goals as goal

pub returns-clause-shares : goal.returns-clause-shares
returns-clause-shares g c = reads_then c.in_ok-put_statement.ensures.shares c.put_further.ensures.shares
    (λ h first rest sound p at is. statement_then g.W.Write.contents c.args.writer.now c.put_statement.new.writer c.put_further.new.writer c.args.day p
    (live_pledges h c.args.book c.args.receipts.now) (call_end c.put_further.result) (first sound p at is)
    (rest sound (subst (HasTermsOf (get h.books c.args.book)) (sym is) (has_terms h c.args.book c.args.number p sound at))))

pub returns-in_err-put_statement-clause-shares : goal.returns-in_err-put_statement-clause-shares
returns-in_err-put_statement-clause-shares g c =
    let now : c.from_residual.result ≡ Err c.in_err-put_statement.field-0.0 = search rules in
    reads_as c.in_err-put_statement.ensures.shares (λ h first sound p at is.
    rw now (statement_stops g.W.Write.contents c.args.writer.now c.put_statement.new.writer c.args.day p (live_pledges h c.args.book c.args.receipts.now)
    (first sound p at is)))
