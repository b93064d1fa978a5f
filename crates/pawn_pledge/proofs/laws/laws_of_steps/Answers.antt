use Rattle.pawn_pledge.proofs.Moves.{pledge_moves}
use Rattle.pawn_pledge.proofs.Receipts.{closed-moved}
use Rattle.pawn_pledge.proofs.Starts.{starts_reachable}
use Rattle.pawn_pledge.proofs.Steps.{agreement_stays, stays_replayable, stays_within, stays_reachable, changes_differ}
use Rattle.pawn_pledge.proofs.laws.laws_of_steps.Goals as goal

pub returns-clause-starts : goal.returns-clause-starts
returns-clause-starts c = starts_reachable

pub returns-clause-replayable : goal.returns-clause-replayable
returns-clause-replayable c = stays_replayable

pub returns-clause-within : goal.returns-clause-within
returns-clause-within c = stays_within

pub returns-clause-reachable : goal.returns-clause-reachable
returns-clause-reachable c = stays_reachable

pub returns-clause-agreement : goal.returns-clause-agreement
returns-clause-agreement c = agreement_stays

pub returns-clause-differ : goal.returns-clause-differ
returns-clause-differ c = changes_differ

pub returns-clause-closed : goal.returns-clause-closed
returns-clause-closed c p next stamp command done closed step =
    closed-moved p.standing.closing closed (pledge_moves p next stamp command done step).0.standing
