use Rattle.pawn_book.proofs.SlotAccepted.{traces_are_accepted}
use Rattle.pawn_book.proofs.SlotRuns.{bearers_add_events, slots_are_held}
use Rattle.pawn_book.proofs.laws.slots_are_held.Goals as goal

pub returns : goal.returns
returns g c = record { held = slots_are_held; accepted = traces_are_accepted; added = bearers_add_events }
