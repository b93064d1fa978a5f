use Rattle.pawn_list_keeper.proofs.ListReads.{kept_is}
use Rattle.pawn_list_keeper.proofs.kept.kept_at.Goals as goal

pub returns-in-Some : goal.returns-in-Some
returns-in-Some c = record {
  found =
      (kept_is c.args.books.now c.args.book c.in-Some.place c.index-books-place.result c.in-Some.ensures.within c.index-books-place.is c.in-Some.ensures.some);
}
