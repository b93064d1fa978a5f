use Rattle.pawn_pledge.proofs.Stands.{stands}
use Rattle.std.proofs.Common.{rules}
use Rattle.pawn_pledge.proofs.parts.validate.Goals as goal

pub returns-clause-reachable : goal.returns-clause-reachable
returns-clause-reachable c =
    stands c.args.parts.now c.in_ok-totals.totals (record {
      terms = search rules;
      typed = search rules;
      limited = search rules;
      taken = search rules;
      extended = search rules;
      kept = search rules;
      accepted = search rules;
      entered = search rules;
      drawn = search rules;
      live = search rules;
      issued = search rules;
      booked = search rules;
      closed = search rules;
    })
