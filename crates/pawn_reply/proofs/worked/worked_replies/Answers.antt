use Rattle.std.proofs.Common.{refl}
use Rattle.std.specs.Fmt.{digits}
use Rattle.uuid.proofs.OnLiterals.{uuid_on_literals}
use Rattle.pawn_reply.proofs.worked.worked_replies.Goals as goal

pub returns-clause-statuses : goal.returns-clause-statuses
returns-clause-statuses c =
    (refl, refl, refl, refl, refl, refl, refl, refl, refl, refl, refl, refl, refl, refl, refl, refl, refl, refl, refl, refl, refl, refl, refl, refl)

pub returns-clause-refusals : goal.returns-clause-refusals
unfolding digits
returns-clause-refusals c = (refl, refl, refl, refl)

pub returns-clause-faults : goal.returns-clause-faults
unfolding digits
returns-clause-faults c = (refl, refl, refl, refl, refl)

pub returns-clause-answers : goal.returns-clause-answers
unfolding digits uuid_on_literals
returns-clause-answers c = (refl, refl, refl, refl)
