use Rattle.pawn_book.specs.Items.{rows_of_pledges}
use Rattle.pawn_book.specs.Visits.{Front}
use Rattle.pawn_list_keeper.proofs.ListKeeping.{book_read, list_reads}
use Rattle.pawn_list_keeper.specs.Common.{IsShare, Whole, pledges_of}
use Rattle.pawn_list_keeper.specs.Listed.{book_at, listed_book}
use Rattle.std.proofs.Common.{ap, map, subst, ◌∙◌}
use Rattle.pawn_list_keeper.proofs.list.ListKeepKeep.rows_each.Goals as goal

pub returns-in_default-clause-reads : goal.returns-in_default-clause-reads
returns-in_default-clause-reads g c = let visits = c.in_default.ensures.visits in let same = ap rows_of_pledges (c.pledges_in.ensures.value
    ∙ ap pledges_of (ap (λ ks. book_at (map listed_book ks) c.args.book) c.deref.ensures.value ∙ book_read _ c.args.self.now c.args.book c.self.view_is)) in
    (visits.0, visits.1, visits.2, list_reads c.args.self.now _ (subst (IsShare visits.0 visits.1 Front) same visits.3))

pub returns-clause-reads : goal.returns-clause-reads
returns-clause-reads g c = let visits = c.in-Ok.ensures.visits in let same = ap rows_of_pledges (c.pledges_in.ensures.value
    ∙ ap pledges_of (ap (λ ks. book_at (map listed_book ks) c.args.book) c.deref.ensures.value ∙ book_read _ c.args.self.now c.args.book c.self.view_is)) in
    (visits.0, visits.1, visits.2, list_reads c.args.self.now _ (subst (IsShare visits.0 visits.1 Whole) same visits.3))
