use Rattle.pawn_list_keeper.proofs.ListKeeping.{book_read, list_reads}
use Rattle.pawn_list_keeper.specs.Common.{IsShare, Whole, pledges_of}
use Rattle.pawn_list_keeper.specs.Listed.{book_at, listed_book}
use Rattle.std.proofs.Common.{◌∙◌, ap, map, subst}
use Rattle.pawn_list_keeper.proofs.list.ListKeepKeep.walk.Goals as goal

pub returns-clause-reads : goal.returns-clause-reads
returns-clause-reads g c =
    let visits = c.hand.ensures.visits in
    let same = c.pledges_in.ensures.value
    ∙ ap pledges_of (ap (λ ks. book_at (map listed_book ks) c.args.book) c.deref.ensures.value ∙ book_read _ c.args.self.now c.args.book c.self.view_is) in
    (visits.0, visits.1, visits.2, list_reads c.args.self.now _ (subst (IsShare visits.0 visits.1 Whole) same visits.3))
