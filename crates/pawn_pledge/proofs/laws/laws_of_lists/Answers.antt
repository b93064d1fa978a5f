use Rattle.pawn_pledge.proofs.Growth.{lists_grow}
use Rattle.pawn_pledge.proofs.Steps.{lists_of_step}
use Rattle.pawn_pledge.proofs.laws.laws_of_lists.Goals as goal

pub returns-clause-entries : goal.returns-clause-entries
returns-clause-entries c p next stamp command done step = (lists_of_step p next stamp command done step).entries

pub returns-clause-extensions : goal.returns-clause-extensions
returns-clause-extensions c p next stamp command done step = (lists_of_step p next stamp command done step).extensions

pub returns-clause-all : goal.returns-clause-all
returns-clause-all c = lists_grow
