use Rattle.pawn_book.proofs.Reading.{reads_as}
use Rattle.pawn_check.proofs.Fronts.{unfound}
use Rattle.std.proofs.Common.{◌≤◌}
use Rattle.pawn_check.proofs.pledges.read_pledge.Goals as goal

pub returns-in-None-clause-reads : goal.returns-in-None-clause-reads
returns-in-None-clause-reads g c = reads_as c.in_ok-pledge.ensures.reads (λ h said k is within.
    let low : 1 ≤ c.args.number = c.know_limits.ensures.in_range.0 in
    absurd (unfound h c.args.book c.args.number k is low within (rw c.in-None.is at said)))
