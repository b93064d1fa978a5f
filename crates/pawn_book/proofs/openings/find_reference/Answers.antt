use Rattle.pawn_book.proofs.Plans.{found_by_number}
use Rattle.pawn_book.proofs.Reading.{ok_is, reads_then}
use Rattle.std.proofs.Common.{◌∙◌, ap, Ok}
use Rattle.std.proofs.lemmas.Result.{IfOk-weaker}
use Rattle.pawn_book.proofs.openings.find_reference.Goals as goal

pub returns-in-Ok-Some-clause-reads : goal.returns-in-Ok-Some-clause-reads
returns-in-Ok-Some-clause-reads g c =
    reads_then c.find_ref.ensures.reads c.pledge.ensures.reads (λ h found read sound. IfOk-weaker c.pledge.result _ _ (λ pledge is. is
    ∙ found_by_number h c.args.book c.in-Ok-Some.number c.args.reference.now sound (ok_is (c.in-Ok-Some.is ∙ ap Ok c.in-Ok-Some.field-0-is) found)) read)
