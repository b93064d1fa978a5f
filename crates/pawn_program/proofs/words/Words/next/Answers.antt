use Rattle.std.proofs.Common.{rules}
use Rattle.pawn_program.proofs.words.Words.next.Goals as goal

pub returns-clause-word : goal.returns-clause-word
returns-clause-word c = search rules
