use Rattle.std.proofs.Common.{rules}
use Rattle.pawn_pledge.proofs.pledge.Pledge.extend.Goals as goal

pub returns-then-len-ge-MOST_EXTENSIONS : goal.returns-then-len-ge-MOST_EXTENSIONS
returns-then-len-ge-MOST_EXTENSIONS c = search rules

pub extend_once-requires-clause-longer : goal.extend_once-requires-clause-longer
extend_once-requires-clause-longer c = search rules

pub returns : goal.returns
returns c = search rules
