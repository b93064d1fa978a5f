use Rattle.pawn_csv.proofs.FitLemmas.{writable_books_fit, texts_are_read, texts_of_hosts_are_read}
use Rattle.pawn_csv.proofs.TakenLemmas.{texts_are_read_as}
use Rattle.pawn_csv.proofs.laws.laws_of_texts.Goals as goal

pub returns : goal.returns
returns c = record { fits = writable_books_fit; read = texts_are_read; hosts = texts_of_hosts_are_read; taken = texts_are_read_as }
