use Rattle.std.proofs.Common.{rules}
use Rattle.pawn_list_keeper.proofs.sheet.is_confirmed_for.Goals as goal

pub returns-then-booking-window : goal.returns-then-booking-window
returns-then-booking-window c = search rules
