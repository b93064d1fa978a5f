use Rattle.pawn_pledge.proofs.Receipts.{earlier_are_spent, never_live_again}
use Rattle.pawn_pledge.proofs.Steps.{lists_of_step}
use Rattle.pawn_pledge.proofs.laws.laws_of_receipts.Goals as goal

pub returns-clause-grow : goal.returns-clause-grow
returns-clause-grow c p next stamp command done step = (lists_of_step p next stamp command done step).secrets

pub returns-clause-never_again : goal.returns-clause-never_again
returns-clause-never_again c = never_live_again

pub returns-clause-earlier : goal.returns-clause-earlier
returns-clause-earlier c = earlier_are_spent
