use Rattle.pawn_csv.proofs.OneBook.{texts_hold_one_book}
use Rattle.pawn_csv.proofs.OneReading.{first_faults_are_one, first_faults_exclude_books}
use Rattle.pawn_csv.proofs.laws.texts_have_one_reading.Goals as goal

pub returns : goal.returns
returns c = record { faults = first_faults_are_one; books = first_faults_exclude_books; one = texts_hold_one_book }
