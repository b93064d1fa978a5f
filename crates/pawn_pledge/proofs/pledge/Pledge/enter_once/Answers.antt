use Rattle.std.proofs.Common.{rules}
use Rattle.pawn_pledge.proofs.pledge.Pledge.enter_once.Goals as goal

pub returns-in_err-check_shared_refusals : goal.returns-in_err-check_shared_refusals
returns-in_err-check_shared_refusals c = search rules

pub returns-in-Some : goal.returns-in-Some
returns-in-Some c = search rules
