use Rattle.pawn_book.proofs.SlotSpent.{earlier_receipts_are_spent, spent_is_unknown, spent_receipts_stay}
use Rattle.pawn_book.proofs.laws.spent_receipts_are_unknown.Goals as goal

pub returns : goal.returns
returns g c = record { earlier = earlier_receipts_are_spent; stay = spent_receipts_stay; unknown = spent_is_unknown }
