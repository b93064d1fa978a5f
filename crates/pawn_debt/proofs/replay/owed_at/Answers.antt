use Rattle.pawn_debt.proofs.KeptLemmas.{owed-later, millionths-later}
use Rattle.std.proofs.Common.{refl, ◌∙◌, arith}
use Rattle.pawn_debt.proofs.replay.owed_at.Goals as goal

pub returns-clause-owed : goal.returns-clause-owed
returns-clause-owed c = c.after_days.ensures.owed ∙ owed-later _ _ _ _ c.requires.kept refl (omega (arith, c.requires.kept.day))

pub returns-clause-millionths_in : goal.returns-clause-millionths_in
returns-clause-millionths_in c = millionths-later _ _ _ _ _ c.requires.kept refl (omega (arith, c.requires.kept.day)) c.after_days.ensures.small
