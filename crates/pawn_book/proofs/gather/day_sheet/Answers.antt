use Rattle.pawn_book.proofs.Reading.{reads_as}
use Rattle.pawn_book.proofs.VisitLemmas.{gathered}
use Rattle.std.proofs.Common.{◌∙◌, ap, sym, ◌++◌, append-nil, refl}
use Rattle.pawn_book.proofs.gather.day_sheet.Goals as goal

pub returns-clause-reads : goal.returns-clause-reads
returns-clause-reads g c =
    let visits = c.in_ok-sheet_each.ensures.reads in
    let all = gathered _ c.sheet_each.new.visitor visits.0 visits.1 visits.2 c.if-gathering.false in
    reads_as visits.3 (λ h share.
    all.0 ∙ ap (λ t. t ++ visits.0) c.new.ensures.items ∙ sym (append-nil visits.0) ∙ ap (λ t. visits.0 ++ t) (sym (share.2 all.1 refl)) ∙ share.1)
