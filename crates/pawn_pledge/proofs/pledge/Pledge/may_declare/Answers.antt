use Rattle.std.proofs.Common.{rules}
use Rattle.pawn_pledge.proofs.pledge.Pledge.may_declare.Goals as goal

pub returns-then-is_among-clause-answer : goal.returns-then-is_among-clause-answer
returns-then-is_among-clause-answer c = search rules
