use Rattle.pawn_book.proofs.Plans.{taken_plans}
use Rattle.pawn_book.proofs.Reading.{ok_is, reads_as, reads_then}
use Rattle.pawn_book.specs.BookStep.{newest, next_pledge, take_pledge, with_reference}
use Rattle.pawn_book.specs.Books.{Opened, PutPledge}
use Rattle.pawn_book.specs.Common.{Agreement, IsSaid}
use Rattle.pawn_book.specs.Keeping.{pledges_of}
use Rattle.pawn_book.specs.Plans.{IsUnwell, Plans}
use Rattle.std.proofs.Common.{◌∙◌, ap, Ok, Some, subst, sym}
use Rattle.pawn_book.proofs.openings.plan_pledge.Goals as goal

pub returns-in-Ok-clause-reads : goal.returns-in-Ok-clause-reads
returns-in-Ok-clause-reads g c = reads_then c.find_reference.ensures.reads c.new_pledge.ensures.reads (λ h found taken sound at is heads.
    let answer = subst (IsSaid IsUnwell (next_pledge c.args.head.now c.args.opening.now c.args.stamp.now (newest at.terms))) c.in-Ok.is (taken at is heads) in
    subst (λ n. Plans h c.args.book (take_pledge at c.args.book c.args.opening.now c.args.stamp.now (with_reference at.pledges c.args.opening.now.reference))
    (Ok (record { change = Some (PutPledge c.args.book n c.in-Ok.pledge); reply = Opened c.first_receipt.result })))
    (sym (ap (λ (a : Agreement). a.number) c.agreement.ensures.value))
    (subst (λ r. Plans h c.args.book (take_pledge at c.args.book c.args.opening.now c.args.stamp.now (with_reference at.pledges c.args.opening.now.reference))
    (Ok (record { change = Some (PutPledge c.args.book c.in-Ok.pledge.agreement.number c.in-Ok.pledge); reply = Opened r })))
    (sym c.first_receipt.ensures.value) (taken_plans h c.args.book at c.args.head.now c.args.opening.now c.args.stamp.now c.in-Ok.pledge sound is heads
    (ok_is (c.in-Ok-None.is ∙ ap Ok c.in-Ok-None.field-0-is) (found sound)) answer c.in-Ok.ensures.reachable c.know_given.ensures.reference
    c.know_given.ensures.article c.know_given.ensures.word c.know_given.ensures.day)))

pub returns-in-Ok-Some-clause-reads : goal.returns-in-Ok-Some-clause-reads
returns-in-Ok-Some-clause-reads g c = reads_as c.find_reference.ensures.reads (λ h found sound at is heads.
    subst (λ p. Plans h c.args.book (take_pledge at c.args.book c.args.opening.now c.args.stamp.now p) c.plan_again.result)
    (ok_is (c.in-Ok-Some.is ∙ ap Ok c.in-Ok-Some.field-0-is) (found sound) ∙ ap (λ o. with_reference (pledges_of o) c.args.opening.now.reference) is)
    (c.plan_again.ensures.plans h c.args.book at c.args.stamp.now))
