use Rattle.pawn_book.proofs.SlotRuns.{books_answer_alone, equal_book_traces_answer_alike, other_books_stay}
use Rattle.pawn_book.proofs.laws.books_answer_alone.Goals as goal

pub returns : goal.returns
returns g c = record { alone = books_answer_alone; alike = equal_book_traces_answer_alike; others = other_books_stay }
