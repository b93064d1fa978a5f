use Rattle.pawn_csv.proofs.LayoutLemmas.{not_replayable_is_of_no_book, refused_are_no_front, taken_are_laid_out}
use Rattle.pawn_csv.proofs.LayoutLemmas.{too_many_is_above_a_limit}
use Rattle.pawn_csv.proofs.TakenLemmas.{layouts_are_taken}
use Rattle.pawn_csv.proofs.laws.rows_have_one_layout.Goals as goal

pub returns : goal.returns
returns c = record {
  taken = layouts_are_taken;
  laid = taken_are_laid_out;
  refused = refused_are_no_front;
  many = too_many_is_above_a_limit;
  replayable = not_replayable_is_of_no_book;
}
