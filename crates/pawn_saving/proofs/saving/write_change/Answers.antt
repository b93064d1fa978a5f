use Rattle.pawn_saving.proofs.WithinLimit.{counted_within}
use Rattle.pawn_saving.proofs.saving.write_change.Goals as goal

pub returns-in-Ok-true-clause-wrote : goal.returns-in-Ok-true-clause-wrote
returns-in-Ok-true-clause-wrote g c clean within h sound stood =
    (counted_within _ _ _ c.args.change.now c.in-Ok.added c.in-Ok-true.field-0 c.in-Ok.ensures.lent.leaves c.in-Ok.ensures.wrote
    c.in-Ok-true.ensures.lent.leaves c.in-Ok-true.ensures.counts clean within h sound stood).0 c.in-Ok-true.field-0-test

pub returns-in-Ok-false-clause-wrote : goal.returns-in-Ok-false-clause-wrote
returns-in-Ok-false-clause-wrote g c clean within h sound stood =
    (counted_within _ _ _ c.args.change.now c.in-Ok.added c.in-Ok-false.field-0 c.in-Ok.ensures.lent.leaves c.in-Ok.ensures.wrote
    c.in-Ok-false.ensures.lent.leaves c.in-Ok-false.ensures.counts clean within h sound stood).1 c.in-Ok-false.field-0-test
