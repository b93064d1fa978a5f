use Rattle.std.proofs.Common.{rules}
use Rattle.pawn_pledge.proofs.record.BookingState.after_closing.Goals as goal

pub returns-in-Asked : goal.returns-in-Asked
returns-in-Asked c = search rules
