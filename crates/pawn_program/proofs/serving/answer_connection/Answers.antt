use Rattle.std.proofs.Common.{rules}
use Rattle.pawn_program.proofs.serving.answer_connection.Goals as goal

pub returns-clause-session : goal.returns-clause-session
returns-clause-session g c = search rules
