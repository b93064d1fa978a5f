use Rattle.pawn_pledge.proofs.Repeats.{entries_act_once, same_end_is_answered, extensions_act_once}
use Rattle.pawn_pledge.proofs.laws.laws_of_repeats.Goals as goal

pub returns-clause-entries : goal.returns-clause-entries
returns-clause-entries c = entries_act_once

pub returns-clause-same_end : goal.returns-clause-same_end
returns-clause-same_end c = same_end_is_answered

pub returns-clause-extensions : goal.returns-clause-extensions
returns-clause-extensions c = extensions_act_once
