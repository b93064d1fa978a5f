use Rattle.pawn_pledge.proofs.Starts.{started_stands, starts_reachable}
use Rattle.pawn_pledge.specs.Step.{pledge_start}
use Rattle.pawn_pledge.proofs.pledge.Pledge.start.Goals as goal

pub returns-clause-reachable : goal.returns-clause-reachable
returns-clause-reachable c =
    started_stands (pledge_start c.args.number c.args.opening c.args.version c.args.terms c.args.stamp.now) c.of_opening.result c.of_opening.ensures.started
    (λ p is.
    starts_reachable c.args.number c.args.opening c.args.version c.args.terms c.args.stamp.now p c.know_start.ensures.number c.know_start.ensures.opening
    c.know_start.ensures.terms c.know_start.ensures.day is)
