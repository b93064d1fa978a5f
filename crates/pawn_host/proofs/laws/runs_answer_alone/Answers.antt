use Rattle.pawn_host.proofs.HeadlineLemmas.{equal_book_traces_answer_alike, equal_traces_answer_alike}
use Rattle.pawn_host.proofs.HeadlineLemmas.{runs_answer_alone}
use Rattle.pawn_host.proofs.laws.runs_answer_alone.Goals as goal

pub returns : goal.returns
returns c = record { alone = runs_answer_alone; alike = equal_traces_answer_alike; books_alike = equal_book_traces_answer_alike }
