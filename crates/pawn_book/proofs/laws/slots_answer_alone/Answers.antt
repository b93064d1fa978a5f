use Rattle.pawn_book.proofs.SlotRuns.{equal_traces_answer_alike, slots_answer_alone}
use Rattle.pawn_book.proofs.laws.slots_answer_alone.Goals as goal

pub returns : goal.returns
returns g c = record { alone = slots_answer_alone; alike = equal_traces_answer_alike }
