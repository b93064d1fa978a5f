use Rattle.std.proofs.Common.{rules}
use Rattle.pawn_csv.proofs.book_reading.finish_text.Goals as goal

pub returns-in-Err-clause-fault : goal.returns-in-Err-clause-fault
returns-in-Err-clause-fault c = search rules
