use Rattle.pawn_debt.proofs.KeptLemmas.{owed-later, millionths-later}
use Rattle.std.proofs.Common.{◌∙◌}
use Rattle.pawn_debt.proofs.debt.Debt.owed_on.Goals as goal

pub returns-clause-owed : goal.returns-clause-owed
returns-clause-owed c = c.after_days.ensures.owed ∙ owed-later _ _ _ _ c.self.invariant c.self.view_is c.requires.later

pub returns-clause-millionths_in : goal.returns-clause-millionths_in
returns-clause-millionths_in c = millionths-later _ _ _ _ _ c.self.invariant c.self.view_is c.requires.later c.after_days.ensures.small
