use Rattle.pawn_book.proofs.Plans.{next_plans}
use Rattle.pawn_book.proofs.Reading.{ok_is, reads_as}
use Rattle.std.proofs.Common.{◌∙◌, ap, Ok, sym}
use Rattle.pawn_book.proofs.set_up.plan_terms.Goals as goal

pub returns-in-Ok-clause-reads : goal.returns-in-Ok-clause-reads
returns-in-Ok-clause-reads g c =
    reads_as c.terms.ensures.reads (λ h told sound at is heads. next_plans h c.args.book at c.args.head.now c.args.new_terms.now c.in-Ok.terms sound is heads
    (ok_is (c.in-Ok-None.is ∙ ap Ok c.in-Ok-None.field-0-is) told) (sym c.next_terms.ensures.value ∙ c.in-Ok.is) c.in-Ok.ensures.checked)
